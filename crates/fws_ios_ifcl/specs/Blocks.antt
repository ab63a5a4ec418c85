-- The rules of a diagram to which access lists and translations are unfolded.
use Rattle.std.specs.Prelude.{ℕ, suc, ◌+◌, Bool, true, false, Option, None, List, [], ◌∷◌, ◌++◌, map, length, if◌then◌else◌}
use Rattle.std.specs.List.{list_any}
use Rattle.std.specs.Option.{option_map_or}
use Rattle.std.specs.Str.{bytes_eq}
use Rattle.fws_net.specs.declared.condition.Lit.{Lit}
use Rattle.fws_net.specs.declared.condition.Test.TheVariants as tests
use Rattle.fws_net.specs.declared.outcome.End.{End}
use Rattle.fws_net.specs.Ends.{host_end}
use Rattle.fws_ifcl.specs.declared.diagram.Act.{Act}
use Rattle.fws_ifcl.specs.declared.diagram.Act.TheVariants.{Accept, Drop, Skip, Src, Dst}
use Rattle.fws_ifcl.specs.declared.diagram.Rule.{Rule}
use Rattle.fws_rules.specs.Literals.{literals, one, positive, protocol_literal}
use Rattle.fws_ifcl_rules.specs.Rules.{ruled, always, guarded}
use Rattle.fws_ios.specs.declared.config.IosEntry.{IosEntry}
use Rattle.fws_ios.specs.declared.config.IosList.{IosList}
use Rattle.fws_ios.specs.declared.config.IosGroup.{IosGroup}
use Rattle.fws_ios.specs.declared.config.IosNat.{IosNat}
use Rattle.fws_ios.specs.declared.config.IosNat.TheVariants.{Static, List as Listed}
use Rattle.fws_ios.specs.Walk.{is_directed, list_named}

-- Lists

-- the rule of an entry, by what is done where the list permits and where it denies
abbrev pub entry_rule : Act → Act → IosEntry → Rule
entry_rule permitted denied entry = ruled entry.cond (if entry.permit then permitted else denied)

-- the rules of a list, which denies behind its entries
abbrev pub listing : Act → Act → List IosEntry → List Rule
listing permitted denied entries = map (entry_rule permitted denied) entries ++ always denied ∷ []

-- Lists at interfaces

-- the packet comes in by this interface, or goes out by it
abbrev pub at_face : Bool → ℕ → List Lit
at_face outward face = positive (if outward then tests.Xmit (one face face) else tests.Recv (one face face)) ∷ []

-- the rules of a list that is applied, of which the first has the place at: every packet passes where there is no list of the name
abbrev pub applying : Bool → ℕ → List IosList → IosGroup → List Rule
applying outward at lists g =
    option_map_or (λ l. guarded at (at_face outward g.face) (listing Accept Drop l.entries)) (list_named g.list lists)
    (ruled (at_face outward g.face) Accept ∷ [])

-- those of one that is applied in this direction; none of any other
abbrev pub applied : Bool → ℕ → List IosList → IosGroup → List Rule
applied outward at lists g = if is_directed outward g then applying outward at lists g else []

-- the rules of lists that are applied, of which the first has the place at
abbrev pub applied_from : Bool → ℕ → List IosList → List IosGroup → List Rule
applied_from outward at lists [] = []
applied_from outward at lists (g ∷ gs) =
    applied outward at lists g ++ applied_from outward (at + length (applied outward at lists g)) lists gs

-- Statics

-- a packet comes from this end, or goes to it
abbrev pub at_end : Bool → End → List Lit
at_end outward e =
    positive (if outward then tests.Src (one e.addr e.addr) else tests.Dst (one e.addr e.addr))
    ∷ option_map_or (λ port. positive (if outward then tests.Sport (one port port) else tests.Dport (one port port)) ∷ []) e.port []

abbrev pub static_cond : Bool → Option ℕ → End → List Lit
static_cond outward proto e = literals false (protocol_literal proto) ++ at_end outward e

-- the rules of a translation that is a static, of which the first has the place at: as packets go out its outer end stands
-- for the inner one as the source, and as they come in the inner end stands for the outer one as the destination
abbrev pub static_rules : Bool → ℕ → IosNat → List Rule
static_rules true at (Static proto local global) = guarded at (static_cond true proto local) (always (Src global) ∷ always Accept ∷ [])
static_rules false at (Static proto local global) = guarded at (static_cond false proto global) (always (Dst local) ∷ always Accept ∷ [])
static_rules outward at (Listed name addr) = []

-- the rules of all statics, of which the first has the place at
abbrev pub statics_from : Bool → ℕ → List IosNat → List Rule
statics_from outward at [] = []
statics_from outward at (nat ∷ nats) = static_rules outward at nat ++ statics_from outward (at + length (static_rules outward at nat)) nats

-- Translations by lists

-- the rules of a list that chooses packets for an address, of which the first has the place at: two rules behind the list write
-- the address as the source of what it permits, and what it denies goes on behind these
abbrev pub choosing : ℕ → List IosEntry → ℕ → List Rule
choosing at entries addr =
    listing (Skip (at + suc (length entries))) (Skip (at + (3 + length entries))) entries ++ always (Src (host_end addr None)) ∷ always Accept ∷ []

-- those of a translation by a list, unless one before it asked the same list, whose answer would be the same
abbrev pub choosing_rules : ℕ → List IosList → List (List ℕ) → IosNat → List Rule
choosing_rules at lists asked (Static proto local global) = []
choosing_rules at lists asked (Listed name addr) =
    if list_any (bytes_eq name) asked then []
    else option_map_or (λ l. choosing at l.entries addr) (list_named name lists) []

-- the lists that were asked, with that of this translation
abbrev pub with_asked : IosNat → List (List ℕ) → List (List ℕ)
with_asked (Static proto local global) asked = asked
with_asked (Listed name addr) asked = if list_any (bytes_eq name) asked then asked else asked ++ name ∷ []

-- the rules of all translations by lists behind those that asked these lists, of which the first has the place at
abbrev pub choosing_from : ℕ → List IosList → List (List ℕ) → List IosNat → List Rule
choosing_from at lists asked [] = []
choosing_from at lists asked (nat ∷ nats) =
    choosing_rules at lists asked nat ++ choosing_from (at + length (choosing_rules at lists asked nat)) lists (with_asked nat asked) nats
