-- Bytes as text. To be believed for what is shown.
use Rattle.std.specs.Prelude.{ℕ, ◌-◌, ◌^◌, false, List, [], ◌++◌, codes}
use Rattle.std.specs.Fmt.{digits, padded_integral, format_spec}
use Rattle.std.specs.List.{flat_map}

-- a number in hexadecimal, padded with 0 to two digits at least, as `{:02x}` writes it
abbrev pub two_digits : ℕ → List ℕ
two_digits b = padded_integral (format_spec 32 0 4 2 (2 ^ 64 - 1)) false [] (digits 16 false b)

-- a space and the two digits of a byte
abbrev pub spaced_byte : ℕ → List ℕ
spaced_byte b = codes " " ++ two_digits b

-- the same of each byte
abbrev pub hex_text : List ℕ → List ℕ
hex_text bs = flat_map spaced_byte bs
