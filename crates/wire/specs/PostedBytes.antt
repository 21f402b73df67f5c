-- The frames that stand on the lines of a board, and those that stand in the spans of a tape. To be believed of the two wires.
use Rattle.std.specs.Prelude.{◌≡◌, ℕ, zero, suc, ◌+◌, ◌-◌, ◌≤◌, Bool, true, if◌then◌else◌, ◌||◌, List, [], map, slice_index_or, slice_range, ◌==◌, nat_le}
use Rattle.arrayvec.specs.ArrayVec.{ArrayVec}
use Rattle.frames.specs.Frames.{longest_frame}
use Rattle.wire.specs.declared.span.Span.{Span}

-- ---- the board

-- the frame of box q, where each box has its line
abbrev pub line_frame : List (ArrayVec ℕ) → ℕ → List ℕ
line_frame lines q = slice_index_or (map (λ l. l.items) lines) q []

-- ---- the tape

-- the empty span
abbrev pub no_span : Span
no_span = record { start = 0; end = 0 }

-- the span of box q; past the end of the list, the empty one
abbrev pub span_at : List Span → ℕ → Span
span_at spans q = slice_index_or spans q no_span

-- how many bytes it has
abbrev pub span_length : List Span → ℕ → ℕ
span_length spans q = (span_at spans q).end - (span_at spans q).start

-- the frame of box q, where each box has its span of these bytes
abbrev pub tape_frame : List Span → List ℕ → ℕ → List ℕ
tape_frame spans bytes q = slice_range bytes (span_at spans q).start (span_at spans q).end

-- ---- what a tape keeps

-- a frame may stand in the span, of so many bytes
abbrev pub HoldsFrame : ℕ → Span → Type 0
HoldsFrame room s = (s.start + 1 ≤ s.end) × (s.end ≤ s.start + longest_frame) × (s.end ≤ room)

-- no byte is in the spans of two boxes that pass
abbrev pub AreApart : (ℕ → Bool) → (ℕ → Span) → Type 0
AreApart P span = (p q : ℕ) → P p ≡ true → P q ≡ true
    → (p == q || nat_le (span p).end (span q).start || nat_le (span q).end (span p).start) ≡ true

-- the sum of f over the numbers below n that pass
unfoldable pub sum_over : (ℕ → Bool) → (ℕ → ℕ) → ℕ → ℕ
sum_over P f zero = 0
sum_over P f (suc n) = (if P 0 then f 0 else 0) + sum_over (λ k. P (suc k)) (λ k. f (suc k)) n
