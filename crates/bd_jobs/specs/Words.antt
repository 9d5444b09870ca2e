-- The words of a script's line: numbers and names.
use Rattle.std.specs.Prelude.{ℕ, ◌+◌, ◌-◌, ◌*◌, ◌^◌, Bool, false, not, ◌&&◌, ◌||◌, ◌==◌, nat_lt, nat_le, List, [], ◌∷◌, filter, length, Option, None, Some, if◌then◌else◌}
use Rattle.std.specs.List.{list_all, slice_split}

-- ---- words

-- space and tab
abbrev pub is_blank : ℕ → Bool
is_blank b = (b == 32) || (b == 9)

abbrev pub is_some_word : List ℕ → Bool
is_some_word word = not (length word == 0)

-- the words of a line: what stands between its blanks
abbrev pub words_of : List ℕ → List (List ℕ)
words_of line = filter is_some_word (slice_split is_blank line)

-- ---- numbers

abbrev pub is_digit : ℕ → Bool
is_digit b = nat_le 48 b && nat_le b 57

-- the number whose digits are those of n and then these
abbrev pub value_from : ℕ → List ℕ → ℕ
value_from n [] = n
value_from n (b ∷ bs) = value_from (n * 10 + (b - 48)) bs

-- digits without a leading zero, or the one digit 0
abbrev pub is_number : List ℕ → Bool
is_number [] = false
is_number (b ∷ []) = is_digit b
is_number (b ∷ bs) = not (b == 48) && list_all is_digit (b ∷ bs)

-- the number that a word is, up to 2^64 - 1
abbrev pub number_of : List ℕ → Option ℕ
number_of word = if is_number word && nat_lt (value_from 0 word) (2 ^ 64) then Some (value_from 0 word) else None

-- ---- names

-- a letter of the name of a handle or a mark
abbrev pub is_handle_byte : ℕ → Bool
is_handle_byte b = (nat_le 65 b && nat_le b 90) || (nat_le 97 b && nat_le b 122) || is_digit b || (b == 95) || (b == 45)

-- the name of a handle or a mark
abbrev pub is_handle : List ℕ → Bool
is_handle word = nat_le 1 (length word) && nat_le (length word) 32 && list_all is_handle_byte word

-- a letter of a device's name
abbrev pub is_device_byte : ℕ → Bool
is_device_byte b = nat_le 33 b && nat_le b 126

abbrev pub is_device : List ℕ → Bool
is_device word = nat_le 1 (length word) && nat_le (length word) 255 && list_all is_device_byte word
