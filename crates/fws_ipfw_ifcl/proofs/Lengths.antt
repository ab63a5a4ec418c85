-- How many rules the rules of a rule are.
use Rattle.std.proofs.Common.{◌≡◌, ℕ, suc, ◌+◌, ◌*◌, Bool, true, false, Option, Some, None, List, [], ◌∷◌, ◌++◌, length, arith, refl, ap, length-append}
use Rattle.fws_net.specs.declared.condition.Lit.{Lit}
use Rattle.fws_ifcl.specs.declared.diagram.Act.TheVariants.{Skip, AddTag, DelTag}
use Rattle.fws_ifcl_rules.specs.Rules.{always, guard, guarded}
use Rattle.fws_ipfw.specs.declared.config.IpfwAct.{IpfwAct}
use Rattle.fws_ipfw.specs.declared.config.IpfwAct.TheVariants as acts
use Rattle.fws_ipfw.specs.declared.config.IpfwTag.{IpfwTag}
use Rattle.fws_ipfw.specs.declared.config.IpfwTag.TheVariants as tags
use Rattle.fws_ipfw.specs.declared.config.IpfwNat.{IpfwNat}
use Rattle.fws_ipfw.specs.declared.config.IpfwRule.{IpfwRule}
use Rattle.fws_ipfw.specs.declared.config.Redirect.{Redirect}
use Rattle.fws_ipfw.specs.Walk.{nat_numbered}
use Rattle.fws_ipfw_ifcl.specs.Translating.{by_trial, aliasing, aliasing_width, choosing_all, writing_all, redirecting, redirecting_width, tracking, translating_by, translating, translating_width}
use Rattle.fws_ipfw_ifcl.specs.Blocks.{acting, acting_width, tagging_first, tagging_width, keeping, keeping_width, block, width, widths, place_behind, skipping_to, blocks}

-- the rules that choose
pub choosing_length : (outward : Bool) (to : ℕ) (rs : List Redirect) → length (choosing_all outward to rs) ≡ length rs
choosing_length outward to [] = refl
choosing_length outward to (r ∷ rs) = ap suc (choosing_length outward (to + 2) rs)

-- the rules that write
pub writing_length : (outward : Bool) (done : ℕ) (rs : List Redirect) → length (writing_all outward done rs) ≡ 2 * length rs
writing_length outward done [] = refl
writing_length outward done (r ∷ rs) =
    let rest : length (writing_all outward done rs) ≡ 2 * length rs = writing_length outward done rs in
    omega (arith, rest)

-- the rules for the alias
pub aliasing_length : (outward : Bool) (alias : ℕ) → length (aliasing outward alias) ≡ aliasing_width outward
aliasing_length true alias = refl
aliasing_length false alias = refl

-- the rules for redirects and for the alias
pub redirecting_length : (outward : Bool) (alias at done : ℕ) (rs : List Redirect) → length (redirecting outward alias at done rs) ≡ redirecting_width outward rs
redirecting_length outward alias at done rs =
    let to = at + (length rs + (aliasing_width outward + 1)) in
    let choices = choosing_all outward to rs in
    let writes = writing_all outward done rs in
    let all : length (redirecting outward alias at done rs) ≡ length (choices ++ aliasing outward alias) + length (always (Skip done) ∷ writes) =
    length-append (choices ++ aliasing outward alias) (always (Skip done) ∷ writes) in
    let front : length (choices ++ aliasing outward alias) ≡ length choices + length (aliasing outward alias) = length-append choices (aliasing outward alias) in
    let first : length choices ≡ length rs = choosing_length outward to rs in
    let second : length (aliasing outward alias) ≡ aliasing_width outward = aliasing_length outward alias in
    let third : length writes ≡ 2 * length rs = writing_length outward done rs in
    omega (arith, all, front, first, second, third)

-- the rules of an instance
pub translating_by_length : (at done : ℕ) (nat : IpfwNat)
    → length (translating_by at done nat) ≡ 4 + (redirecting_width false (by_trial nat.redirects) + redirecting_width true (by_trial nat.redirects))
translating_by_length at done nat =
    let rs = by_trial nat.redirects in
    let outwards = at + (4 + redirecting_width false rs) in
    let inner = redirecting false nat.alias (at + 4) done rs in
    let outer = redirecting true nat.alias outwards done rs in
    let all : length (translating_by at done nat) ≡ length (tracking done outwards ++ inner) + length outer = length-append (tracking done outwards ++ inner) outer in
    let front : length (tracking done outwards ++ inner) ≡ 4 + length inner = length-append (tracking done outwards) inner in
    let first : length inner ≡ redirecting_width false rs = redirecting_length false nat.alias (at + 4) done rs in
    let second : length outer ≡ redirecting_width true rs = redirecting_length true nat.alias outwards done rs in
    omega (arith, all, front, first, second)

-- the rules of an instance, or of none
pub translating_length : (at done : ℕ) (nat : Option IpfwNat) → length (translating at done nat) ≡ translating_width nat
translating_length at done None = refl
translating_length at done (Some nat) = translating_by_length at done nat

-- the rules of an act
pub acting_length : (nats : List IpfwNat) (translated : Bool) (ends done to at : ℕ) (cond : List Lit) (act : IpfwAct)
    → length (acting nats translated ends done to at cond act) ≡ acting_width nats translated act
acting_length nats true ends done to at cond acts.Allow = refl
acting_length nats true ends done to at cond acts.Deny = refl
acting_length nats true ends done to at cond acts.Count = refl
acting_length nats true ends done to at cond (acts.Skip n) = refl
acting_length nats true ends done to at cond acts.Check = refl
acting_length nats true ends done to at cond (acts.Nat n) = refl
acting_length nats false ends done to at cond acts.Allow = refl
acting_length nats false ends done to at cond acts.Deny = refl
acting_length nats false ends done to at cond acts.Count = refl
acting_length nats false ends done to at cond (acts.Skip n) = refl
acting_length nats false ends done to at cond acts.Check = refl
acting_length nats false ends done to at cond (acts.Nat n) =
    let body = translating (at + 2) done (nat_numbered n nats) in
    let all : length (guarded at cond body) ≡ 2 + length body = length-append (guard at cond (length body)) body in
    let inner : length body ≡ translating_width (nat_numbered n nats) = translating_length (at + 2) done (nat_numbered n nats) in
    omega (arith, all, inner)

-- the rules of a tag and of the act behind it
pub tagging_first_length : (nats : List IpfwNat) (translated : Bool) (ends done to at : ℕ) (cond : List Lit) (act : IpfwAct) (tag : IpfwTag)
    → length (tagging_first nats translated ends done to at cond act tag) ≡ tagging_width tag + acting_width nats translated act
tagging_first_length nats translated ends done to at cond act tags.Nothing =
    let inner : length (acting nats translated ends done to at cond act) ≡ acting_width nats translated act = acting_length nats translated ends done to at cond act in
    omega (arith, inner)
tagging_first_length nats translated ends done to at cond act (tags.Add n) =
    let body = always (AddTag n) ∷ acting nats translated ends done to (at + 3) [] act in
    let all : length (guarded at cond body) ≡ 2 + length body = length-append (guard at cond (length body)) body in
    let inner : length (acting nats translated ends done to (at + 3) [] act) ≡ acting_width nats translated act = acting_length nats translated ends done to (at + 3) [] act in
    omega (arith, all, inner)
tagging_first_length nats translated ends done to at cond act (tags.Remove n) =
    let body = always (DelTag n) ∷ acting nats translated ends done to (at + 3) [] act in
    let all : length (guarded at cond body) ≡ 2 + length body = length-append (guard at cond (length body)) body in
    let inner : length (acting nats translated ends done to (at + 3) [] act) ≡ acting_width nats translated act = acting_length nats translated ends done to (at + 3) [] act in
    omega (arith, all, inner)

-- the rules of a rule that keeps state
pub keeping_length : (keep translated : Bool) (ends : ℕ) → length (keeping keep translated ends) ≡ keeping_width keep
keeping_length true translated ends = refl
keeping_length false translated ends = refl

-- the rules of a rule
pub block_length : (nats : List IpfwNat) (translated : Bool) (ends done to at : ℕ) (r : IpfwRule)
    → length (block nats translated ends done to at r) ≡ width nats translated r
block_length nats translated ends done to at r =
    let inner = tagging_first nats translated ends done to (at + keeping_width r.keep) r.cond r.act r.tag in
    let all : length (block nats translated ends done to at r) ≡ length (keeping r.keep translated ends) + length inner = length-append (keeping r.keep translated ends) inner in
    let first : length (keeping r.keep translated ends) ≡ keeping_width r.keep = keeping_length r.keep translated ends in
    let second : length inner ≡ tagging_width r.tag + acting_width nats translated r.act =
    tagging_first_length nats translated ends done to (at + keeping_width r.keep) r.cond r.act r.tag in
    omega (arith, all, first, second)

-- the rules of rules
pub blocks_length : (nats : List IpfwNat) (one_pass translated : Bool) (ends at other : ℕ) (rs : List IpfwRule)
    → length (blocks nats one_pass translated ends at other rs) ≡ widths nats translated rs
blocks_length nats one_pass translated ends at other [] = refl
blocks_length nats one_pass translated ends at other (r ∷ rs) =
    let next = at + width nats translated r in
    let here = block nats translated ends (place_behind one_pass ends (other + width nats true r)) (skipping_to nats translated next rs r.act) at r in
    let behind = blocks nats one_pass translated ends next (other + width nats true r) rs in
    let all : length (here ++ behind) ≡ length here + length behind = length-append here behind in
    let first : length here ≡ width nats translated r =
    block_length nats translated ends (place_behind one_pass ends (other + width nats true r)) (skipping_to nats translated next rs r.act) at r in
    let second : length behind ≡ widths nats translated rs = blocks_length nats one_pass translated ends next (other + width nats true r) rs in
    omega (arith, all, first, second)
