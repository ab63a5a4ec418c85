-- Which diagrams can't be unfolded: a chain reaches itself, a path of calls is too deep, or the rules become too many.
use Rattle.std.specs.Prelude.{ℕ, zero, suc, ◌+◌, Bool, true, false, ◌&&◌, ◌||◌, not, nat_eq, nat_lt, Option, Some, None, is_some, List, [], ◌∷◌, ◌++◌, length, map, sum, if◌then◌else◌}
use Rattle.std.specs.List.{list_any}
use Rattle.std.specs.Option.{option_map, option_map_or}
use Rattle.fws_ifcl.specs.declared.diagram.Act.{Act}
use Rattle.fws_ifcl.specs.declared.diagram.Act.TheVariants.{Call, Goto}
use Rattle.fws_ifcl.specs.declared.diagram.Rule.{Rule}
use Rattle.fws_ifcl.specs.declared.diagram.Chain.{Chain}
use Rattle.fws_ifcl.specs.declared.diagram.Stage.{Stage}
use Rattle.fws_ifcl.specs.declared.diagram.Ifcl.{Ifcl}
use Rattle.fws_ifcl.specs.declared.refusal.UnfoldRefusal.{UnfoldRefusal}
use Rattle.fws_ifcl.specs.declared.refusal.UnfoldRefusal.TheVariants.{Loop, Deep, Long}
use Rattle.fws_ifcl.specs.Walk.{rules_at}

-- Paths

-- the chain that a rule calls or goes to
abbrev pub named_by : Act → Option ℕ
named_by (Call c) = Some c
named_by (Goto c) = Some c
named_by _ = None

-- the chains that rules name
abbrev pub all_named : List Rule → List ℕ
all_named [] = []
all_named (r ∷ rs) = option_map_or (λ c. c ∷ []) (named_by r.act) [] ++ all_named rs

-- the chains that a chain names
abbrev pub named_in : List Chain → ℕ → List ℕ
named_in chains c = all_named (rules_at chains c)

-- a chain reaches another by 1 to n steps, each from a chain to one that it names
abbrev pub reaches : List Chain → ℕ → ℕ → ℕ → Bool
reaches chains zero from to = false
reaches chains (suc n) from to = list_any (λ c. nat_eq c to || reaches chains n c to) (named_in chains from)

-- a chain reaches itself; no more steps are needed than there are chains
abbrev pub is_looped : List Chain → ℕ → Bool
is_looped chains c = reaches chains (length chains) c c

-- a path of n steps begins at the chain
abbrev pub begins_path : List Chain → ℕ → ℕ → Bool
begins_path chains zero c = true
begins_path chains (suc n) c = list_any (begins_path chains n) (named_in chains c)

-- a path of more than 64 chains begins at the chain
abbrev pub is_deep : List Chain → ℕ → Bool
is_deep chains c = begins_path chains 64 c

abbrev pub stages_of : Ifcl → List Stage
stages_of f = f.arrive ++ f.deliver ++ f.forward ++ f.send

-- the chain is one of a stage
abbrev pub is_staged : Ifcl → ℕ → Bool
is_staged f c = list_any (λ stage. nat_eq c stage.chain) (stages_of f)

-- Sizes

-- a chain's size: the number of its rules, and for each of them that names a chain the size of that chain; at most n chains deep
abbrev pub size_within : List Chain → ℕ → ℕ → ℕ
size_within chains zero c = 0
size_within chains (suc n) c = length (rules_at chains c) + sum (map (size_within chains n) (named_in chains c))

-- where no chain reaches itself, no path has more chains than there are
abbrev pub size_of : List Chain → ℕ → ℕ
size_of chains c = size_within chains (length chains) c

-- The refusals

-- the first chain from n on for which the test holds, of this many
abbrev pub first_chain : (ℕ → Bool) → ℕ → List Chain → Option ℕ
first_chain test n [] = None
first_chain test n (chain ∷ chains) = if test n then Some n else first_chain test (suc n) chains

-- the first chain that reaches itself
abbrev pub loop_of : Ifcl → Option ℕ
loop_of f = first_chain (is_looped f.chains) 0 f.chains

-- the first chain of a stage at which a path of more than 64 chains begins
abbrev pub deep_of : Ifcl → Option ℕ
deep_of f = first_chain (λ c. is_staged f c && is_deep f.chains c) 0 f.chains

abbrev pub names_any : Chain → Bool
names_any chain = list_any (λ r. is_some (named_by r.act)) chain.rules

-- the chain of a stage, from n on, at which the sum of their sizes passes 1,000,000, which is s ahead of them
abbrev pub passed_at : Ifcl → ℕ → ℕ → List Chain → Option ℕ
passed_at f s n [] = None
passed_at f s n (chain ∷ rest) =
    if not (is_staged f n) then passed_at f s (suc n) rest
    else if nat_lt 1000000 (s + size_of f.chains n) then Some n
    else passed_at f (s + size_of f.chains n) (suc n) rest

-- the chain at which the sum passes, where some rule calls or goes to a chain
abbrev pub long_of : Ifcl → Option ℕ
long_of f = if list_any names_any f.chains then passed_at f 0 0 f.chains else None

abbrev pub or_else : Option UnfoldRefusal → Option UnfoldRefusal → Option UnfoldRefusal
or_else (Some r) other = Some r
or_else None other = other

-- why a diagram can't be unfolded: a loop is tried first, then depth, then length
abbrev pub refusal_of : Ifcl → Option UnfoldRefusal
refusal_of f = or_else (option_map Loop (loop_of f)) (or_else (option_map Deep (deep_of f)) (option_map Long (long_of f)))
