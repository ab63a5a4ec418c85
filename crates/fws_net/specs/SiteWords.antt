-- The words of a site file.
use Rattle.std.specs.Prelude.{ℕ, ◌-◌, ◌%◌, ◌^◌, Bool, false, ◌&&◌, ◌||◌, nat_eq, nat_le, Option, Some, None, option_and_then, Result, Ok, Err, List, [], ◌∷◌, length, drop, codes, if◌then◌else◌}
use Rattle.std.specs.Str.{bytes_eq}
use Rattle.std.specs.Option.{ok_or, option_map}
use Rattle.std.specs.List.{starts_with, list_all}
use Rattle.fws_num.specs.declared.prefix.Prefix.{Prefix}
use Rattle.fws_num.specs.declared.word.Word.{Word}
use Rattle.fws_num.specs.Numbers.{is_digit, dec_of, quad_of, split_once}
use Rattle.fws_net.specs.declared.cause.SiteCause.{SiteCause}
use Rattle.fws_net.specs.declared.cause.SiteCause.TheVariants.{Syntax}
use Rattle.fws_net.specs.declared.site.Address.{Address}
use Rattle.fws_net.specs.declared.site.Names.{Names}
use Rattle.fws_net.specs.declared.site.Side.{Side}
use Rattle.fws_net.specs.declared.site.Side.TheVariants.{Neither, Inside, Outside}
use Rattle.fws_net.specs.Reading.{◌>>=◌}

abbrev pub is_word : List ℕ → Word → Bool
is_word text w = bytes_eq w.text text

abbrev pub is_letter : ℕ → Bool
is_letter c = (nat_le 65 c && nat_le c 90) || (nat_le 97 c && nat_le c 122)

-- a letter, a digit, or one of _ . / -
abbrev pub is_name_byte : ℕ → Bool
is_name_byte c = is_letter c || is_digit c || nat_eq c 95 || nat_eq c 46 || nat_eq c 47 || nat_eq c 45

-- a letter and at most 29 more bytes of a name
abbrev pub is_name : List ℕ → Bool
is_name [] = false
is_name (c ∷ cs) = is_letter c && list_all is_name_byte cs && nat_le (length cs) 29

-- the name itself, if it is one
abbrev pub name_of : List ℕ → Result (List ℕ) SiteCause
name_of text = if is_name text then Ok text else Err Syntax

-- the name behind a front such as `ipt=`
abbrev pub name_behind : List ℕ → Word → Result (List ℕ) SiteCause
name_behind front w = if starts_with nat_eq w.text front then name_of (drop (length front) w.text) else Err Syntax

-- the names of an interface in the four systems
unfoldable pub names_of : Word → Word → Word → Word → Result Names SiteCause
names_of a b c d = do
  ipt ← name_behind (codes "ipt=") a
  ipfw ← name_behind (codes "ipfw=") b
  pf ← name_behind (codes "pf=") c
  ios ← name_behind (codes "ios=") d
  Ok (record { ipt = ipt; ipfw = ipfw; pf = pf; ios = ios })

-- on which side of the translation an interface stands
abbrev pub side_of : Word → Result Side SiteCause
side_of w =
    if is_word (codes "nat=inside") w then Ok Inside
    else if is_word (codes "nat=outside") w then Ok Outside
    else if is_word (codes "nat=none") w then Ok Neither else Err Syntax

-- four names and a side
unfoldable pub names_and_side : Word → Word → Word → Word → Word → Result (Names × Side) SiteCause
names_and_side a b c d e = do
  names ← names_of a b c d
  side ← side_of e
  Ok (names, side)

-- an address and a decimal of at most 32 behind a slash
abbrev pub address_and_len : List ℕ → Option (ℕ × ℕ)
address_and_len text = option_and_then
    (λ parts. option_and_then (λ addr. option_map (λ len. (addr, len)) (dec_of parts.1 32)) (quad_of parts.0)) (split_once 47 text)

-- an address with the length 1 to 32 of its network
abbrev pub address_of : List ℕ → Result Address SiteCause
address_of text = ok_or (option_and_then
    (λ parts. if nat_eq parts.1 0 then None else Some (record { addr = parts.0; len = parts.1 })) (address_and_len text)) Syntax

-- a network of a length from 0 to 32, of which the bits past the length are cleared
abbrev pub net_of : List ℕ → Result Prefix SiteCause
net_of text = ok_or (option_map
    (λ parts. record { addr = parts.0 - parts.0 % 2 ^ (32 - parts.1); len = parts.1 }) (address_and_len text)) Syntax
