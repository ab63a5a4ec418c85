-- Lists of ports and ranges of addresses, as the systems write them.
use Rattle.std.specs.Prelude.{ℕ, nat_le, Option, Some, None, option_and_then, List, [], ◌∷◌, if◌then◌else◌}
use Rattle.std.specs.Option.{option_map_or}
use Rattle.fws_num.specs.Numbers.{quad_of, split_once}
use Rattle.fws_num.specs.Pieces.{pieces_of}
use Rattle.fws_num.specs.Services.{port_of, ports_between}
use Rattle.fws_iv.specs.declared.iv.Iv.{Iv}
use Rattle.fws_iv.specs.Ivs.{with_range}

-- the two ends of a range, if the first is at most the second
abbrev pub in_order : ℕ × ℕ → Option (ℕ × ℕ)
in_order range = if nat_le range.0 range.1 then Some range else None

-- a port, or a range of ports with the byte between
abbrev pub port_range : ℕ → List ℕ → Option (ℕ × ℕ)
port_range divider text = option_map_or (λ p. Some (p, p)) (port_of text) (option_and_then in_order (ports_between divider text))

-- the set with the ports of the items
abbrev pub with_ports : ℕ → List Iv → List (List ℕ) → Option (List Iv)
with_ports divider set [] = Some set
with_ports divider set (item ∷ items) =
    option_and_then (λ range. with_ports divider (with_range range.0 range.1 set) items) (port_range divider item)

-- the ports of a list: ports and ranges of ports, joined by commas
abbrev pub ports_of : ℕ → List ℕ → Option (List Iv)
ports_of divider text = with_ports divider [] (pieces_of 44 text)

-- two addresses with a dash between
abbrev pub addresses_between : List ℕ → Option (ℕ × ℕ)
addresses_between text = option_and_then
    (λ parts. option_and_then (λ lo. option_map_or (λ hi. Some (lo, hi)) (quad_of parts.1) None) (quad_of parts.0)) (split_once 45 text)

-- a range of addresses with a dash between, the first at most the second
abbrev pub address_range : List ℕ → Option (ℕ × ℕ)
address_range text = option_and_then in_order (addresses_between text)
