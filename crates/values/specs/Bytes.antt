-- Numbers as bytes, the high byte first. Assumes nothing.
use Rattle.std.specs.Prelude.{ℕ, zero, suc, ◌+◌, ◌*◌, ◌/◌, ◌%◌, ◌^◌, Bool, ◌&&◌, List, [], ◌∷◌, length, nat_eq, nat_le}
use Rattle.std.specs.List.{list_all}

-- the k lowest bytes of n, the high byte first
abbrev pub bytes_of : ℕ → ℕ → List ℕ
bytes_of zero n = []
bytes_of (suc k) n = n / 256 ^ k % 256 ∷ bytes_of k n

-- the number that bytes write, the high byte first
abbrev pub number_of : List ℕ → ℕ
number_of [] = 0
number_of (b ∷ bs) = b * 256 ^ length bs + number_of bs

-- the bytes that a text may hold
abbrev pub printable : ℕ → Bool
printable b = nat_le 32 b && nat_le b 126

-- a test holds of each byte
abbrev pub each : (ℕ → Bool) → List ℕ → Bool
each = list_all

abbrev pub zeros : List ℕ → Bool
zeros = each (nat_eq 0)

abbrev pub spaces : List ℕ → Bool
spaces = each (nat_eq 32)
