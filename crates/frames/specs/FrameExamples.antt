-- Worked examples of numbers and of a frame, with bytes in hexadecimal. To be believed for these examples alone.
use Rattle.std.specs.Prelude.{◌≡◌, [], ◌∷◌, Ok, nat_eq}
use Rattle.std.proofs.Common.{lit≤}
use Rattle.base.specs.declared.refusal.Refusal.TheVariants.{Wide, Padded}
use Rattle.numbers.specs.Numbers.{refuse, read_number}
use Rattle.sets.specs.Masks.{set_of}
use Rattle.proposals.specs.Pieces.{piece_kind}
use Rattle.frames.specs.Frames.{read_frame}

abbrev pub Examples : Type 0
Examples =
    (read_number (0x7f ∷ []) 0 ≡ Ok (record { value = 127; next = 1 }))
    × (read_number (0x81 ∷ 0x00 ∷ []) 0 ≡ Ok (record { value = 128; next = 2 }))
    × (read_number (0x8f ∷ 0xff ∷ 0xff ∷ 0xff ∷ 0x7f ∷ []) 0 ≡ Ok (record { value = 4294967295; next = 5 }))
    × (read_number (0x90 ∷ 0x80 ∷ 0x80 ∷ 0x80 ∷ 0x00 ∷ []) 0 ≡ refuse Wide 0)
    × (read_number (0x80 ∷ 0x05 ∷ []) 0 ≡ refuse Padded 0)
    × (read_frame piece_kind (0x02 ∷ 0x00 ∷ 0x04 ∷ 0x14 ∷ [])
    ≡ Ok (record {
      round = record { 0 = 2 };
      sender = record { 0 = 0 };
      missing = set_of (λ i. nat_eq i 2);
      estimate = record { number = 20; most = lit≤ tt };
    }))
