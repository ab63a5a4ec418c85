-- Which configurations can't be unfolded: a chain reaches itself, a path of jumps is too deep, or the rules become too many.
use Rattle.std.specs.Prelude.{ℕ, zero, suc, ◌+◌, Bool, true, false, ◌&&◌, ◌||◌, nat_eq, nat_lt, slice_get, Option, Some, None, is_some, is_none, List, [], ◌∷◌, ◌++◌, length, map, sum, if◌then◌else◌}
use Rattle.std.specs.List.{list_any}
use Rattle.std.specs.Option.{option_map, option_map_or}
use Rattle.fws_net.specs.declared.site.Site.{Site}
use Rattle.fws_ipt.specs.declared.config.IptTable.{IptTable}
use Rattle.fws_ipt.specs.declared.config.IptTable.TheVariants.{Nat}
use Rattle.fws_ipt.specs.declared.config.IptGo.{IptGo}
use Rattle.fws_ipt.specs.declared.config.IptGo.TheVariants.{Jump, Goto, Source, Masquerade, Dest, Redirect, Netmap}
use Rattle.fws_ipt.specs.declared.config.IptRule.{IptRule}
use Rattle.fws_ipt.specs.declared.config.IptChain.{IptChain}
use Rattle.fws_ipt.specs.declared.config.IptConfig.{IptConfig}
use Rattle.fws_ipt.specs.declared.refusal.UnfoldRefusal.{UnfoldRefusal}
use Rattle.fws_ipt.specs.declared.refusal.UnfoldRefusal.TheVariants.{Loop, Deep, Long}
use Rattle.fws_ipt.specs.Walk.{rules_at}

-- Paths

-- the chain that a rule jumps or goes to
abbrev pub named_by : IptGo → Option ℕ
named_by (Jump c) = Some c
named_by (Goto c) = Some c
named_by _ = None

-- the chains that rules name
abbrev pub all_named : List IptRule → List ℕ
all_named [] = []
all_named (r ∷ rs) = option_map_or (λ c. c ∷ []) (named_by r.go) [] ++ all_named rs

-- the chains that a chain names
abbrev pub named_in : List IptChain → ℕ → List ℕ
named_in chains c = all_named (rules_at chains c)

-- a chain reaches another by 1 to n steps, each from a chain to one that it names
abbrev pub reaches : List IptChain → ℕ → ℕ → ℕ → Bool
reaches chains zero from to = false
reaches chains (suc n) from to = list_any (λ c. nat_eq c to || reaches chains n c to) (named_in chains from)

-- a chain reaches itself; no more steps are needed than there are chains
abbrev pub is_looped : List IptChain → ℕ → Bool
is_looped chains c = reaches chains (length chains) c c

-- a path of n steps begins at the chain
abbrev pub begins_path : List IptChain → ℕ → ℕ → Bool
begins_path chains zero c = true
begins_path chains (suc n) c = list_any (begins_path chains n) (named_in chains c)

-- a path of more than 64 chains begins at the chain
abbrev pub is_deep : List IptChain → ℕ → Bool
is_deep chains c = begins_path chains 64 c

abbrev pub is_builtin : List IptChain → ℕ → Bool
is_builtin chains c = option_map_or (λ chain. is_some chain.policy) (slice_get chains c) false

-- Sizes

-- What is counted are rules of the control diagram, where one that writes an end stands for several.

-- how many rules a rule is unfolded to by itself, on a site with f interfaces
abbrev pub width_of : ℕ → IptGo → ℕ
width_of f (Source e) = 4
width_of f (Dest e) = 4
width_of f (Netmap net) = 4
width_of f Masquerade = f + 4
width_of f (Redirect port) = f + 5
width_of f _ = 1

abbrev pub rules_width : ℕ → List IptRule → ℕ
rules_width f rules = sum (map (λ r. width_of f r.go) rules)

-- a built-in chain of nat has one more, which lets packets of connections by
abbrev pub head_width : IptTable → Option Bool → ℕ
head_width Nat (Some accepts) = 1
head_width _ _ = 0

abbrev pub chain_width : ℕ → IptChain → ℕ
chain_width f chain = head_width chain.table chain.policy + rules_width f chain.rules

abbrev pub width_at : ℕ → List IptChain → ℕ → ℕ
width_at f chains c = option_map_or (chain_width f) (slice_get chains c) 0

-- a chain's size: its width, and for each of its rules that names a chain the size of that chain; at most n chains deep
abbrev pub size_within : ℕ → List IptChain → ℕ → ℕ → ℕ
size_within f chains zero c = 0
size_within f chains (suc n) c = width_at f chains c + sum (map (size_within f chains n) (named_in chains c))

-- where no chain reaches itself, no path has more chains than there are
abbrev pub size_of : ℕ → List IptChain → ℕ → ℕ
size_of f chains c = size_within f chains (length chains) c

-- The refusals

-- the first chain from n on for which the test holds, of this many
abbrev pub first_chain : (ℕ → Bool) → ℕ → List IptChain → Option ℕ
first_chain test n [] = None
first_chain test n (chain ∷ chains) = if test n then Some n else first_chain test (suc n) chains

-- the first chain that reaches itself
abbrev pub loop_of : List IptChain → Option ℕ
loop_of chains = first_chain (is_looped chains) 0 chains

-- the first built-in chain at which a path of more than 64 chains begins
abbrev pub deep_of : List IptChain → Option ℕ
deep_of chains = first_chain (λ c. is_builtin chains c && is_deep chains c) 0 chains

abbrev pub names_any : IptChain → Bool
names_any chain = list_any (λ r. is_some (named_by r.go)) chain.rules

-- the built-in chain, from n on, at which the sum of their sizes passes 1,000,000, which is s ahead of them
abbrev pub passed_at : ℕ → List IptChain → ℕ → ℕ → List IptChain → Option ℕ
passed_at f chains s n [] = None
passed_at f chains s n (chain ∷ rest) =
    if is_none chain.policy then passed_at f chains s (suc n) rest
    else if nat_lt 1000000 (s + size_of f chains n) then Some n
    else passed_at f chains (s + size_of f chains n) (suc n) rest

-- the chain at which the sum passes, where some rule jumps or goes; the sum begins at 3, since the diagram has three chains of one
-- rule each ahead of the file's
abbrev pub long_of : ℕ → List IptChain → Option ℕ
long_of f chains = if list_any names_any chains then passed_at f chains 3 0 chains else None

abbrev pub or_else : Option UnfoldRefusal → Option UnfoldRefusal → Option UnfoldRefusal
or_else (Some r) other = Some r
or_else None other = other

-- why a configuration can't be unfolded on a site: a loop is tried first, then depth, then length
abbrev pub refusal_of : Site → IptConfig → Option UnfoldRefusal
refusal_of site c =
    or_else (option_map Loop (loop_of c.chains))
    (or_else (option_map Deep (deep_of c.chains)) (option_map Long (long_of (length site.faces) c.chains)))
