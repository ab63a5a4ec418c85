-- Code without idle tags, which are those that no condition tests.
use Rattle.std.specs.Prelude.{ℕ, Bool, false, not, nat_eq, List, map, if◌then◌else◌}
use Rattle.std.specs.List.{list_any}
use Rattle.fws_net.specs.declared.condition.Lit.{Lit}
use Rattle.fws_net.specs.declared.condition.Test.{Test}
use Rattle.fws_net.specs.declared.condition.Test.TheVariants.{Tag}
use Rattle.fws_flat.specs.declared.code.FlatAct.{FlatAct}
use Rattle.fws_flat.specs.declared.code.FlatAct.TheVariants.{AddTag, OnlyTag, DelTag}
use Rattle.fws_flat.specs.declared.code.Ins.{Ins}

-- a test asks for the tag
abbrev pub asks_for : ℕ → Test → Bool
asks_for n (Tag own) = nat_eq n own
asks_for n _ = false

-- some literal of a condition tests the tag, negated or not
abbrev pub tests_tag : ℕ → List Lit → Bool
tests_tag n cond = list_any (λ lit. asks_for n lit.test) cond

-- the condition of some instruction tests the tag
abbrev pub is_tested : List Ins → ℕ → Bool
is_tested code n = list_any (λ ins. tests_tag n ins.cond) code

-- an act puts a tag that isn't tested
abbrev pub is_idle : (ℕ → Bool) → FlatAct → Bool
is_idle tested (AddTag n) = not (tested n)
is_idle tested (OnlyTag n) = not (tested n)
is_idle tested act = false

-- some act of the code puts a tag that isn't tested
abbrev pub puts_idle : (ℕ → Bool) → List Ins → Bool
puts_idle tested code = list_any (λ ins. is_idle tested ins.act) code

-- an act that puts no idle tag: in place of adding one it takes it away, and in place of making one the only tag it makes the mark
-- the only tag
abbrev pub act_without_idle : (ℕ → Bool) → ℕ → FlatAct → FlatAct
act_without_idle tested mark (AddTag n) = if tested n then AddTag n else DelTag n
act_without_idle tested mark (OnlyTag n) = if tested n then OnlyTag n else OnlyTag mark
act_without_idle tested mark act = act

-- an instruction whose act puts no idle tag but the mark
abbrev pub ins_without_idle : (ℕ → Bool) → ℕ → Ins → Ins
ins_without_idle tested mark ins = record ins { act = act_without_idle tested mark ins.act }

-- code whose acts put no idle tag but the mark, which stands for all that were made the only one
abbrev pub without_idle : (ℕ → Bool) → ℕ → List Ins → List Ins
without_idle tested mark code = map (ins_without_idle tested mark) code
