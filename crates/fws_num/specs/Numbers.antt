-- Numbers, addresses and prefixes as they are spelled.
use Rattle.std.specs.Prelude.{◌≡◌, ◌≢◌, ◌<◌, ◌≤◌, ℕ, zero, suc, ◌+◌, ◌-◌, ◌*◌, ◌/◌, ◌%◌, ◌^◌, Bool, true, false, ◌&&◌, ◌||◌, not, nat_eq, nat_le, Option, Some, None, option_and_then, List, [], ◌∷◌, ◌++◌, length, find, if◌then◌else◌}
use Rattle.std.specs.Fmt.{decimal}
use Rattle.std.specs.List.{list_all, range_with_len}
use Rattle.std.specs.Option.{option_map, option_map_or}
use Rattle.fws_num.specs.declared.prefix.Prefix.{Prefix}

-- one of the bytes 0 to 9
abbrev pub is_digit : ℕ → Bool
is_digit c = nat_le 48 c && nat_le c 57

-- the number that decimal digits spell, after those that spell v
abbrev pub digits_value_after : ℕ → List ℕ → ℕ
digits_value_after v [] = v
digits_value_after v (c ∷ cs) = digits_value_after (v * 10 + (c - 48)) cs

-- the number that decimal digits spell
abbrev pub digits_value : List ℕ → ℕ
digits_value text = digits_value_after 0 text

-- a number of 1 to 20 decimal digits that is at most the limit
abbrev pub dec_of : List ℕ → ℕ → Option ℕ
dec_of text most =
    if list_all is_digit text && nat_le 1 (length text) && nat_le (length text) 20 && nat_le (digits_value text) most
    then Some (digits_value text) else None

-- no byte of the text is this one
abbrev pub lacks : ℕ → List ℕ → Bool
lacks byte text = list_all (λ c. not (nat_eq c byte)) text

-- what stands before the first such byte and what stands behind it
abbrev pub split_once : ℕ → List ℕ → Option (List ℕ × List ℕ)
split_once byte [] = None
split_once byte (c ∷ cs) = if nat_eq c byte then Some ([], cs) else option_map (λ parts. (c ∷ parts.0, parts.1)) (split_once byte cs)

-- a zero with more behind it
abbrev pub has_leading_zero : List ℕ → Bool
has_leading_zero [] = false
has_leading_zero (c ∷ []) = false
has_leading_zero (c ∷ d ∷ cs) = nat_eq c 48

-- a decimal 0 to 255 without leading zeros
unfoldable pub octet_of : List ℕ → Option ℕ
octet_of text = if has_leading_zero text then None else dec_of text 255

-- the octet before the first dot and what stands behind the dot
unfoldable pub octet_before_dot : List ℕ → Option (ℕ × List ℕ)
octet_before_dot text = option_and_then (λ parts. option_map (λ octet. (octet, parts.1)) (octet_of parts.0)) (split_once 46 text)

-- an octet and n more, each behind a dot, after those that make up v
abbrev pub octets_after : ℕ → ℕ → List ℕ → Option ℕ
octets_after v zero text = option_map (λ octet. v * 256 + octet) (octet_of text)
octets_after v (suc n) text = option_and_then (λ parts. octets_after (v * 256 + parts.0) n parts.1) (octet_before_dot text)

-- the address of four octets joined by dots
unfoldable pub quad_of : List ℕ → Option ℕ
quad_of text = octets_after 0 3 text

-- an address as four octets joined by dots
abbrev pub dotted : ℕ → List ℕ
dotted a = decimal (a / 2 ^ 24) ++ 46 ∷ decimal (a / 2 ^ 16 % 256) ++ 46 ∷ decimal (a / 2 ^ 8 % 256) ++ 46 ∷ decimal (a % 256)

-- the mask of a prefix: its first n bits are set
abbrev pub mask_of : ℕ → ℕ
mask_of n = 2 ^ 32 - 2 ^ (32 - n)

-- the length of a contiguous mask
unfoldable pub mask_len : ℕ → Option ℕ
mask_len mask = find (λ n. nat_eq (mask_of n) mask) (range_with_len 0 33)

-- a prefix length, as a decimal 0 to 32 or as a contiguous mask
unfoldable pub prefix_len_of : List ℕ → Option ℕ
prefix_len_of text = option_map_or Some (dec_of text 32) (option_and_then mask_len (quad_of text))

-- the address without the bits past the first n
unfoldable pub first_bits : ℕ → ℕ → ℕ
first_bits n a = a - a % 2 ^ (32 - n)

-- an address, or an address with a length or a mask behind a slash
unfoldable pub prefix_of : List ℕ → Option Prefix
prefix_of text = option_map_or
    (λ parts. option_and_then (λ a. option_map (λ n. record { addr = first_bits n a; len = n }) (prefix_len_of parts.1)) (quad_of parts.0))
    (split_once 47 text)
    (option_map (λ a. record { addr = a; len = 32 }) (quad_of text))

-- what is read of a spelled number is that number
abbrev pub DecimalsAreRead : Type 0
DecimalsAreRead = (n most : ℕ) → n < 2 ^ 64 → n ≤ most → dec_of (decimal n) most ≡ Some n

-- what is read of a spelled address is that address, and nothing else is read
abbrev pub QuadsAreDotted : Type 0
QuadsAreDotted = ((a : ℕ) → a < 2 ^ 32 → quad_of (dotted a) ≡ Some a)
    × ((text : List ℕ) (a : ℕ) → quad_of text ≡ Some a → (a < 2 ^ 32) × (text ≡ dotted a))

-- what is read of a spelled prefix is that prefix
abbrev pub PrefixesAreRead : Type 0
PrefixesAreRead = (a n : ℕ) → a < 2 ^ 32 → n ≤ 32 → prefix_of (dotted a ++ 47 ∷ decimal n) ≡ Some (record { addr = first_bits n a; len = n })

-- a text is divided at the byte behind a front that lacks it
abbrev pub SplitsBack : Type 0
SplitsBack = (byte : ℕ) (front behind : List ℕ) → lacks byte front ≡ true → split_once byte (front ++ byte ∷ behind) ≡ Some (front, behind)

-- what stands behind the byte at which a text is divided is shorter than the text, and the two parts with the byte between are the text
abbrev pub BehindIsShorter : Type 0
BehindIsShorter = (byte : ℕ) (text front behind : List ℕ) → split_once byte text ≡ Some (front, behind)
    → (length behind < length text) × (text ≡ front ++ byte ∷ behind)

-- a spelled number has digits alone, and at least one
abbrev pub NumbersAreDigits : Type 0
NumbersAreDigits = (n : ℕ) → (list_all is_digit (decimal n) ≡ true) × (decimal n ≢ [])

-- a spelled address has digits and dots alone, and isn't empty
abbrev pub AddressesAreDotted : Type 0
AddressesAreDotted = (a : ℕ) → (list_all (λ c. is_digit c || nat_eq c 46) (dotted a) ≡ true) × (dotted a ≢ [])
