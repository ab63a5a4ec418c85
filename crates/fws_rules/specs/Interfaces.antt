-- Interfaces by their names, or by what their names begin with.
use Rattle.std.specs.Prelude.{ℕ, nat_eq, Option, Some, None, option_map, Result, Ok, List, [], ◌∷◌, if◌then◌else◌}
use Rattle.std.specs.Option.{option_map_or, ok_or}
use Rattle.fws_iv.specs.declared.iv.Iv.{Iv}
use Rattle.fws_net.specs.declared.cause.Cause.{Cause}
use Rattle.fws_net.specs.declared.cause.Cause.TheVariants.{NoInterface}
use Rattle.fws_net.specs.declared.packet.Lang.{Lang}
use Rattle.fws_net.specs.declared.site.Site.{Site}
use Rattle.fws_net.specs.Faces.{entries_beginning, entry_named}
use Rattle.fws_rules.specs.Literals.{one}

-- what stands ahead of a mark at the end of a name
abbrev pub before_mark : ℕ → List ℕ → Option (List ℕ)
before_mark mark [] = None
before_mark mark (c ∷ []) = if nat_eq c mark then Some [] else None
before_mark mark (c ∷ d ∷ cs) = option_map (λ front. c ∷ front) (before_mark mark (d ∷ cs))

-- the interface that a system calls so
abbrev pub interface_named : Lang → Site → List ℕ → Result (List Iv) Cause
interface_named lang site text = ok_or (option_map (λ entry. one entry entry) (entry_named lang site text)) NoInterface

-- the interface of this name, or with a mark at its end every one whose name begins so
abbrev pub interfaces_of : Lang → ℕ → Site → List ℕ → Result (List Iv) Cause
interfaces_of lang mark site text =
    option_map_or (λ front. Ok (entries_beginning lang site front)) (before_mark mark text) (interface_named lang site text)
