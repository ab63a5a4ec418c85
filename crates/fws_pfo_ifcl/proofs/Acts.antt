-- Rules of acts walk as these change a packet.
use Rattle.std.proofs.Common.{◌≡◌, ℕ, suc, ◌+◌, Bool, true, false, cond, ◌&&◌, List, [], ◌∷◌, ◌++◌, length, map, arith, refl, sym, ap, ◌∙◌, subst}
use Rattle.std.specs.List.{list_all}
use Rattle.std.proofs.lemmas.Bool.{false≢true, and_parts}
use Rattle.fws_net.specs.declared.condition.Lit.{Lit}
use Rattle.fws_net.specs.declared.connection.Kind.TheVariants.{New}
use Rattle.fws_net.specs.declared.packet.Packet.{Packet}
use Rattle.fws_net.specs.declared.transit.Transit.{Transit}
use Rattle.fws_net.specs.Conditions.{holds}
use Rattle.fws_net.specs.Transits.{with_verdict, with_src, with_dst, with_tag, with_only_tag, without_tag}
use Rattle.fws_ifcl.specs.declared.diagram.Act.{Act}
use Rattle.fws_ifcl.specs.declared.diagram.Act.TheVariants as acts
use Rattle.fws_ifcl.specs.declared.diagram.Rule.{Rule}
use Rattle.fws_ifcl.specs.declared.step.ChainEnd.{ChainEnd}
use Rattle.fws_ifcl.specs.declared.step.ChainEnd.TheVariants.{Accepted, Dropped}
use Rattle.fws_ifcl_rules.specs.Places.{IsForward, behind_act, sight, run, Stands}
use Rattle.fws_ifcl_rules.specs.Rules.{ruled, always, guard, guarded}
use Rattle.fws_pfo_ifcl.specs.Blocks.{acting, is_hold}
use Rattle.fws_pfo_ifcl.specs.Diagram.{pass_stage}
use Rattle.fws_pfo_ifcl.proofs.Courses.{Course}
use Rattle.fws_pfo_ifcl.proofs.Tags.{is_tagging, tags_behind, with_tag_is}

-- Acts that change a packet and go on

abbrev pub is_change : Act → Bool
is_change (acts.Hold accepts) = true
is_change (acts.Src e) = true
is_change (acts.Dst e) = true
is_change (acts.AddTag n) = true
is_change (acts.OnlyTag n) = true
is_change (acts.DelTag n) = true
is_change _ = false

abbrev pub changed : Packet → Act → Transit → Transit
changed p (acts.Hold accepts) t = with_verdict accepts t
changed p (acts.Src e) t = with_src p e t
changed p (acts.Dst e) t = with_dst p e t
changed p (acts.AddTag n) t = with_tag n t
changed p (acts.OnlyTag n) t = with_only_tag n t
changed p (acts.DelTag n) t = without_tag n t
changed p _ t = t

abbrev pub done : Packet → List Act → Transit → Transit
done p [] t = t
done p (act ∷ more) t = done p more (changed p act t)

abbrev pub are_changes : List Act → Bool
are_changes list = list_all is_change list

pub done_append : (p : Packet) (xs ys : List Act) (t : Transit) → done p (xs ++ ys) t ≡ done p ys (done p xs t)
done_append p [] ys t = refl
done_append p (x ∷ xs) ys t = done_append p xs ys (changed p x t)

pub changes_append : (xs ys : List Act) → are_changes xs ≡ true → are_changes ys ≡ true → are_changes (xs ++ ys) ≡ true
changes_append [] ys first second = second
changes_append (x ∷ xs) ys first second =
    let both = and_parts (is_change x) (are_changes xs) first in
    ap (λ b. b && are_changes (xs ++ ys)) both.0 ∙ changes_append xs ys both.1 second

-- acts on tags alone are such, and change nothing else
tagging_changes : (act : Act) → is_tagging act ≡ true → is_change act ≡ true
tagging_changes (acts.AddTag n) is = refl
tagging_changes (acts.OnlyTag n) is = refl
tagging_changes (acts.DelTag n) is = refl
tagging_changes _ is = absurd (false≢true is)

pub taggings_change : (list : List Act) → list_all is_tagging list ≡ true → are_changes list ≡ true
taggings_change [] all = refl
taggings_change (act ∷ more) all =
    let both = and_parts (is_tagging act) (list_all is_tagging more) all in
    ap (λ b. b && are_changes more) (tagging_changes act both.0) ∙ taggings_change more both.1

tagged_alone : (p : Packet) (act : Act) → is_tagging act ≡ true → (t : Transit) → changed p act t ≡ record t { tags = tags_behind (act ∷ []) t.tags }
tagged_alone p (acts.AddTag n) is t = with_tag_is n t
tagged_alone p (acts.OnlyTag n) is t = refl
tagged_alone p (acts.DelTag n) is t = refl
tagged_alone p _ is t = absurd (false≢true is)

pub tags_alone : (p : Packet) (list : List Act) → list_all is_tagging list ≡ true → (t : Transit) → done p list t ≡ record t { tags = tags_behind list t.tags }
tags_alone p [] all t = refl
tags_alone p (act ∷ more) all t =
    let both = and_parts (is_tagging act) (list_all is_tagging more) all in
    ap (done p more) (tagged_alone p act both.0 t) ∙ tags_alone p more both.1 (record t { tags = tags_behind (act ∷ []) t.tags })

-- Walks

-- such an act goes forward
forward : (at : ℕ) (act : Act) → is_change act ≡ true → IsForward at act
forward at (acts.Hold accepts) is = tt
forward at (acts.Src e) is = tt
forward at (acts.Dst e) is = tt
forward at (acts.AddTag n) is = tt
forward at (acts.OnlyTag n) is = tt
forward at (acts.DelTag n) is = tt
forward at _ is = absurd (false≢true is)

behind : {outward : Bool} (w : Course New outward) (next : Transit → ChainEnd) (act : Act) → is_change act ≡ true → (t : Transit)
    → behind_act w.enter w.site w.p New (pass_stage outward) w.full next act t ≡ next (changed w.p act t)
behind w next (acts.Hold accepts) is t = refl
behind w next (acts.Src e) is t = refl
behind w next (acts.Dst e) is t = refl
behind w next (acts.AddTag n) is t = refl
behind w next (acts.OnlyTag n) is t = refl
behind w next (acts.DelTag n) is t = refl
behind w next _ is t = absurd (false≢true is)

-- one rule
change_walk : {outward : Bool} (w : Course New outward) (at : ℕ) (test : List Lit) (act : Act) → is_change act ≡ true → Stands w at (ruled test act ∷ []) → (t : Transit)
    → run w at t ≡ cond (holds test (sight w t)) (run w (at + 1) (changed w.p act t)) (run w (at + 1) t)
change_walk w at test act is s t =
    w.law.walked s (forward (at + 0) act is, tt) t
    ∙ ap (λ end. cond (holds test (sight w t)) end (run w (at + 1) t)) (behind w (λ u. run w (at + 1) u) act is t)

-- rules that act everywhere
pub changes_walk : {outward : Bool} (w : Course New outward) (at : ℕ) (list : List Act) → are_changes list ≡ true → Stands w at (map always list) → (t : Transit)
    → run w at t ≡ run w (at + length (map always list)) (done w.p list t)
changes_walk w at [] all s t =
    let same : at ≡ at + 0 = omega arith in
    ap (λ place. run w place t) same
changes_walk w at (act ∷ more) all s t =
    let both = and_parts (is_change act) (are_changes more) all in
    let rest = map always more in
    let parts = w.law.parts (at + 1) (always act ∷ []) rest s refl in
    let after = changed w.p act t in
    let same : (at + 1) + length rest ≡ at + suc (length rest) = omega arith in
    change_walk w at [] act both.0 parts.0 t
    ∙ changes_walk w (at + 1) more both.1 parts.1 after
    ∙ ap (λ place. run w place (done w.p more after)) same

-- and those behind which packets are accepted
accepts_walk : {outward : Bool} (w : Course New outward) (at : ℕ) (list : List Act) → are_changes list ≡ true → Stands w at (map always (list ++ acts.Accept ∷ [])) → (t : Transit)
    → run w at t ≡ Accepted (done w.p list t)
accepts_walk w at [] all s t = w.law.walked s (tt, tt) t
accepts_walk w at (act ∷ more) all s t =
    let both = and_parts (is_change act) (are_changes more) all in
    let rest = map always (more ++ acts.Accept ∷ []) in
    let parts = w.law.parts (at + 1) (always act ∷ []) rest s refl in
    change_walk w at [] act both.0 parts.0 t ∙ accepts_walk w (at + 1) more both.1 parts.1 (changed w.p act t)

-- inner rules, where the condition holds
guarded_walk : {outward : Bool} (w : Course New outward) (at : ℕ) (test : List Lit) (inner : List Rule) (end : Transit → ChainEnd)
    → ((t : Transit) → Stands w (at + 2) inner → run w (at + 2) t ≡ end t) → Stands w at (guard at test (length inner) ++ inner) → (t : Transit)
    → run w at t ≡ cond (holds test (sight w t)) (end t) (run w (at + (2 + length inner)) t)
guarded_walk w at test inner end on s t =
    let parts = w.law.parts (at + 2) (guard at test (length inner)) inner s refl in
    w.law.walked parts.0 (omega arith, (omega arith, tt)) t
    ∙ ap (λ x. cond (holds test (sight w t)) x (run w (at + (2 + length inner)) t)) (on t parts.1)

either_way : (b : Bool) (x : ChainEnd) → x ≡ cond b x x
either_way true x = refl
either_way false x = refl

-- one place behind a guard and its inner rules
pub behind_guard : (at n : ℕ) → at + (2 + n) ≡ at + suc (suc n)
behind_guard at n = omega arith

behind_inner : (at n : ℕ) → (at + 2) + n ≡ at + suc (suc n)
behind_inner at n = omega arith

-- Two rules of one condition, of which the first holds a verdict

-- no condition tells it
unseen : {outward : Bool} (w : Course New outward) (act : Act) → is_hold act ≡ true → (t : Transit) → sight w (changed w.p act t) ≡ sight w t
unseen w (acts.Hold accepts) is t = refl
unseen w _ is t = absurd (false≢true is)

-- so that both act or neither does
one_of_two : (b d : Bool) → d ≡ b → (x y z v : ChainEnd) → cond b (cond d x y) (cond b z v) ≡ cond b x v
one_of_two true true same x y z v = refl
one_of_two false d same x y z v = refl
one_of_two true false same x y z v = absurd (false≢true same)

-- where the second one acts with this end
both_walk : {outward : Bool} (w : Course New outward) (at : ℕ) (test : List Lit) (act next : Act) (end : Transit → ChainEnd) → is_hold act ≡ true → is_change act ≡ true
    → ((t : Transit) → Stands w (at + 1) (ruled test next ∷ []) → run w (at + 1) t ≡ cond (holds test (sight w t)) (end t) (run w (at + 2) t))
    → Stands w at (ruled test act ∷ ruled test next ∷ []) → (t : Transit)
    → run w at t ≡ cond (holds test (sight w t)) (end (changed w.p act t)) (run w (at + 2) t)
both_walk w at test act next end hold is on s t =
    let parts = w.law.parts (at + 1) (ruled test act ∷ []) (ruled test next ∷ []) s refl in
    let b = holds test (sight w t) in
    let after = changed w.p act t in
    change_walk w at test act is parts.0 t
    ∙ ap (λ x. cond b x (run w (at + 1) t)) (on after parts.1)
    ∙ ap (λ x. cond b (cond (holds test (sight w after)) (end after) (run w (at + 2) after)) x) (on t parts.1)
    ∙ one_of_two b (holds test (sight w after)) (ap (holds test) (unseen w act hold t)) (end after) (run w (at + 2) after) (end t) (run w (at + 2) t)

two_behind : (at : ℕ) → (at + 1) + 1 ≡ at + 2
two_behind at = omega arith

-- two acts where a condition holds
pair_walk : {outward : Bool} (w : Course New outward) (at : ℕ) (test : List Lit) (act next : Act) → is_change act ≡ true → is_change next ≡ true
    → (b : Bool) → is_hold act ≡ b → (rules : List Rule) → rules ≡ cond b (ruled test act ∷ ruled test next ∷ []) (guarded at test (map always (act ∷ next ∷ [])))
    → Stands w at rules → (t : Transit)
    → run w at t ≡ cond (holds test (sight w t)) (run w (at + length rules) (done w.p (act ∷ next ∷ []) t)) (run w (at + length rules) t)
pair_walk w at test act next first second true hold rules are s t =
    let past = at + 2 in
    both_walk w at test act next (λ u. run w past (changed w.p next u)) hold first
    (λ u stands. change_walk w (at + 1) test next second stands u
    ∙ ap (λ place. cond (holds test (sight w u)) (run w place (changed w.p next u)) (run w place u)) (two_behind at))
    (subst (Stands w at) are s) t
    ∙ ap (λ list. cond (holds test (sight w t)) (run w (at + length list) (done w.p (act ∷ next ∷ []) t)) (run w (at + length list) t)) (sym are)
pair_walk w at test act next first second false hold rules are s t =
    let list = act ∷ next ∷ [] in
    let inner = map always list in
    let past = at + 4 in
    let all : are_changes list ≡ true = ap (λ b. b && (is_change next && true)) first ∙ ap (λ b. b && true) second in
    guarded_walk w at test inner (λ u. run w past (done w.p list u))
    (λ u stands. changes_walk w (at + 2) list all stands u ∙ ap (λ place. run w place (done w.p list u)) (behind_inner at (length inner))) (subst (Stands w at) are s) t
    ∙ ap (λ list. cond (holds test (sight w t)) (run w (at + length list) (done w.p (act ∷ next ∷ []) t)) (run w (at + length list) t)) (sym are)

-- acts where a condition holds
pub acting_walk : {outward : Bool} (w : Course New outward) (at : ℕ) (test : List Lit) (list : List Act) → are_changes list ≡ true → Stands w at (acting at test list) → (t : Transit)
    → run w at t
    ≡ cond (holds test (sight w t)) (run w (at + length (acting at test list)) (done w.p list t)) (run w (at + length (acting at test list)) t)
acting_walk w at test [] all s t =
    let same : at ≡ at + 0 = omega arith in
    either_way (holds test (sight w t)) (run w at t)
    ∙ ap (λ place. cond (holds test (sight w t)) (run w place t) (run w place t)) same
acting_walk w at test (act ∷ []) all s t = change_walk w at test act (and_parts (is_change act) true all).0 s t
acting_walk w at test (act ∷ next ∷ []) all s t =
    let both = and_parts (is_change act) (is_change next && true) all in
    pair_walk w at test act next both.0 (and_parts (is_change next) true both.1).0 (is_hold act) refl (acting at test (act ∷ next ∷ [])) refl s t
acting_walk w at test (act ∷ next ∷ third ∷ more) all s t =
    let list = act ∷ next ∷ third ∷ more in
    let inner = map always list in
    let past = at + suc (suc (length inner)) in
    guarded_walk w at test inner (λ u. run w past (done w.p list u))
    (λ u stands. changes_walk w (at + 2) list all stands u ∙ ap (λ place. run w place (done w.p list u)) (behind_inner at (length inner))) s t
    ∙ ap (λ place. cond (holds test (sight w t)) (run w past (done w.p list t)) (run w place t)) (behind_guard at (length inner))

-- one act behind which packets are accepted
last_accepts : {outward : Bool} (w : Course New outward) (at : ℕ) (test : List Lit) (act : Act) → is_change act ≡ true
    → (b : Bool) → is_hold act ≡ b → (rules : List Rule) → rules ≡ cond b (ruled test act ∷ ruled test acts.Accept ∷ []) (guarded at test (map always (act ∷ acts.Accept ∷ [])))
    → Stands w at rules → (t : Transit)
    → run w at t ≡ cond (holds test (sight w t)) (Accepted (done w.p (act ∷ []) t)) (run w (at + length rules) t)
last_accepts w at test act is true hold rules are s t =
    both_walk w at test act acts.Accept Accepted hold is
    (λ u stands. w.law.walked stands (tt, tt) u ∙ ap (λ place. cond (holds test (sight w u)) (Accepted u) (run w place u)) (two_behind at))
    (subst (Stands w at) are s) t
    ∙ ap (λ list. cond (holds test (sight w t)) (Accepted (changed w.p act t)) (run w (at + length list) t)) (sym are)
last_accepts w at test act is false hold rules are s t =
    guarded_walk w at test (map always (act ∷ acts.Accept ∷ [])) (λ u. Accepted (done w.p (act ∷ []) u))
    (λ u stands. accepts_walk w (at + 2) (act ∷ []) (ap (λ b. b && true) is) stands u) (subst (Stands w at) are s) t
    ∙ ap (λ list. cond (holds test (sight w t)) (Accepted (changed w.p act t)) (run w (at + length list) t)) (sym are)

-- a block of acts behind which packets are accepted
block_accepts : {outward : Bool} (w : Course New outward) (at : ℕ) (test : List Lit) (list : List Act) → are_changes list ≡ true
    → Stands w at (guarded at test (map always (list ++ acts.Accept ∷ []))) → (t : Transit)
    → run w at t ≡ cond (holds test (sight w t)) (Accepted (done w.p list t)) (run w (at + length (guarded at test (map always (list ++ acts.Accept ∷ [])))) t)
block_accepts w at test list all s t =
    let inner = map always (list ++ acts.Accept ∷ []) in
    guarded_walk w at test inner (λ u. Accepted (done w.p list u)) (λ u stands. accepts_walk w (at + 2) list all stands u) s t
    ∙ ap (λ place. cond (holds test (sight w t)) (Accepted (done w.p list t)) (run w place t)) (behind_guard at (length inner))

-- acts behind which packets are accepted
pub acting_accepts : {outward : Bool} (w : Course New outward) (at : ℕ) (test : List Lit) (list : List Act) → are_changes list ≡ true
    → Stands w at (acting at test (list ++ acts.Accept ∷ [])) → (t : Transit)
    → run w at t ≡ cond (holds test (sight w t)) (Accepted (done w.p list t)) (run w (at + length (acting at test (list ++ acts.Accept ∷ []))) t)
acting_accepts w at test [] all s t = w.law.walked s (tt, tt) t
acting_accepts w at test (act ∷ []) all s t =
    last_accepts w at test act (and_parts (is_change act) true all).0 (is_hold act) refl (acting at test (act ∷ acts.Accept ∷ [])) refl s t
acting_accepts w at test (act ∷ next ∷ []) all s t = block_accepts w at test (act ∷ next ∷ []) all s t
acting_accepts w at test (act ∷ next ∷ third ∷ more) all s t = block_accepts w at test (act ∷ next ∷ third ∷ more) all s t

-- a rule that drops packets
pub acting_drops : {outward : Bool} (w : Course New outward) (at : ℕ) (test : List Lit) → Stands w at (acting at test (acts.Drop ∷ [])) → (t : Transit)
    → run w at t ≡ cond (holds test (sight w t)) Dropped (run w (at + 1) t)
acting_drops w at test s t = w.law.walked s (tt, tt) t
