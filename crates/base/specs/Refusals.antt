-- The number and the word of each refusal, and which of several is given. To be believed for every promise on refusals.
use Rattle.std.specs.Prelude.{ℕ, Bool, if◌then◌else◌, List, [], ◌∷◌, ◌++◌, Ok, Err, codes, decimal, Result}
use Rattle.base.specs.declared.refusal.Refusal.{Refusal}
use Rattle.base.specs.declared.refusal.Refusal.TheVariants.{Short, Wide, Padded, Surplus, Stranger, OffBeat, Heard, Set, Image, Tally, Company, Row, Wire, Down, Spent, Over, Silent, Order, Narrow, Posted, Entry}

-- the number, from 1
abbrev pub number_of : Refusal → ℕ
number_of Short = 1
number_of Wide = 2
number_of Padded = 3
number_of Surplus = 4
number_of Stranger = 5
number_of OffBeat = 6
number_of Heard = 7
number_of Set = 8
number_of Image = 9
number_of Tally = 10
number_of Company = 11
number_of Row = 12
number_of Wire = 13
number_of Down = 14
number_of Spent = 15
number_of Over = 16
number_of Silent = 17
number_of Order = 18
number_of Narrow = 19
number_of Posted = 20
number_of Entry = 21

-- the word, as its bytes
abbrev pub word_of : Refusal → List ℕ
word_of Short = codes "short"
word_of Wide = codes "wide"
word_of Padded = codes "padded"
word_of Surplus = codes "surplus"
word_of Stranger = codes "stranger"
word_of OffBeat = codes "off beat"
word_of Heard = codes "heard"
word_of Set = codes "set"
word_of Image = codes "image"
word_of Tally = codes "tally"
word_of Company = codes "company"
word_of Row = codes "row"
word_of Wire = codes "wire"
word_of Down = codes "down"
word_of Spent = codes "spent"
word_of Over = codes "over"
word_of Silent = codes "silent"
word_of Order = codes "order"
word_of Narrow = codes "narrow"
word_of Posted = codes "posted"
word_of Entry = codes "entry"

-- number and word, with a space between
abbrev pub refusal_text : Refusal → List ℕ
refusal_text e = decimal (number_of e) ++ (codes " " ++ word_of e)

-- the answer of a call that refuses for the first of these faults that there is, and else gives x
abbrev pub unless : {X : Type 0} → List (Bool × Refusal) → X → Result X Refusal
unless [] x = Ok x
unless ((fault, e) ∷ faults) x = if fault then Err e else unless faults x
