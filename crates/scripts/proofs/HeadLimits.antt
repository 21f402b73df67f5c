-- What is known of n and t that were read.
use Rattle.std.proofs.Common.{◌≡◌, ℕ, ◌≤◌, true, List, Ok, arith}
use Rattle.std.proofs.lemmas.Bool.Decides.{nat_tests}
use Rattle.base.specs.declared.refusal.Refusal.{Refusal}
use Rattle.sets.specs.Companies.{is_company}
use Rattle.frames.proofs.FrameRoundTrip.{next_inv}
use Rattle.scripts.specs.declared.reader.Head.{Head}
use Rattle.scripts.specs.ScriptReading.{number_at, read_head}

pub record HeadIs (places : ℕ) (h : Head) : Type 0 where
  pub size : is_company h.n h.t ≡ true
  pub room : h.n ≤ places
  pub few : h.n ≤ 32
  pub some : 2 ≤ h.n

pub head_is : (places : ℕ) (bytes : List ℕ) (h : Head) → read_head places bytes ≡ Ok h → HeadIs places h
unfolding read_head
head_is places bytes h e =
    let p = next_inv (λ (d : Refusal). d) (number_at bytes 0) _ h e in
    let q = next_inv (λ (d : Refusal). d) (number_at bytes p.0.next) _ h p.2 in
    let r = q.2 in
    let limits : is_company h.n h.t ≡ true = grind (arith, nat_tests) in
    let room : h.n ≤ places = grind (arith, nat_tests) in
    record { size = limits; room = room; few = grind (arith, nat_tests); some = grind (arith, nat_tests) }
