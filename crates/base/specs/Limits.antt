-- The limits of numbers, images and companies, each with its name. To be believed for every promise.
use Rattle.std.specs.Prelude.{ℕ, ◌^◌}

-- the numbers that are written and read are below this
abbrev pub number_limit : ℕ
number_limit = 2 ^ 32

-- and the numbers of an image below this, 2 ^ 28: they take four groups of seven bits at most
abbrev pub image_limit : ℕ
image_limit = 268435456

-- the most boxes of a company; a set has room for as many
abbrev pub most_company : ℕ
most_company = 32
