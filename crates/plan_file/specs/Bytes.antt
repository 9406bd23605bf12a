-- Big-endian numbers.
use Rattle.std.specs.Prelude.{ℕ, ◌+◌, ◌*◌, ◌/◌, ◌%◌, List, [], ◌∷◌, slice_index}

-- the bytes of a number of 16, 32 and 64 bits
abbrev pub be16 : ℕ → List ℕ
be16 n = (n / 256 % 256) ∷ (n % 256) ∷ []

abbrev pub be32 : ℕ → List ℕ
be32 n = (n / 16777216 % 256) ∷ (n / 65536 % 256) ∷ (n / 256 % 256) ∷ (n % 256) ∷ []

abbrev pub be64 : ℕ → List ℕ
be64 n =
    (n / 72057594037927936 % 256) ∷ (n / 281474976710656 % 256) ∷ (n / 1099511627776 % 256) ∷ (n / 4294967296 % 256)
    ∷ (n / 16777216 % 256) ∷ (n / 65536 % 256) ∷ (n / 256 % 256) ∷ (n % 256) ∷ []

-- the number whose bytes begin at index i
abbrev pub at16 : List ℕ → ℕ → ℕ
at16 bs i = slice_index bs i * 256 + slice_index bs (i + 1)

abbrev pub at32 : List ℕ → ℕ → ℕ
at32 bs i = slice_index bs i * 16777216 + slice_index bs (i + 1) * 65536 + slice_index bs (i + 2) * 256 + slice_index bs (i + 3)

-- the number of 64 bits with which bytes begin
abbrev pub first64 : List ℕ → ℕ
first64 bs =
    slice_index bs 0 * 72057594037927936 + slice_index bs 1 * 281474976710656 + slice_index bs 2 * 1099511627776 + slice_index bs 3 * 4294967296
    + slice_index bs 4 * 16777216 + slice_index bs 5 * 65536 + slice_index bs 6 * 256 + slice_index bs 7
