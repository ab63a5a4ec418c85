-- The rules of the tail decide as its filter rules do.
use Rattle.std.proofs.Common.{◌≡◌, ℕ, zero, suc, ◌+◌, ◌-◌, ◌<◌, ◌≤◌, ◌⊎◌, inl, inr, Bool, true, false, not, cond, ◌&&◌, ◌||◌, nat_lt, Option, Some, None, is_some, List, [], ◌∷◌, ◌++◌, length, map, get_or, take, drop, take-suc, arith, refl, sym, ap, ◌∙◌, subst, append_assoc, append-nil}
use Rattle.std.proofs.lemmas.Bool.{false≢true, le-ltb, cond-false, or_parts}
use Rattle.std.specs.List.{list_any}
use Rattle.std.proofs.Math.Seq.{take-length}
use Rattle.fws_net.specs.declared.condition.Lit.{Lit}
use Rattle.fws_net.specs.declared.connection.Kind.TheVariants.{New}
use Rattle.fws_net.specs.declared.site.Site.{Site}
use Rattle.fws_net.specs.declared.transit.Transit.{Transit}
use Rattle.fws_net.specs.declared.view.View.{View}
use Rattle.fws_net.specs.Conditions.{holds}
use Rattle.fws_net.specs.Transits.{with_verdict, decided}
use Rattle.fws_ifcl.specs.declared.diagram.Act.TheVariants.{Accept, Drop}
use Rattle.fws_ifcl.specs.declared.diagram.Rule.{Rule}
use Rattle.fws_ifcl.specs.declared.step.ChainEnd.TheVariants.{Accepted, Dropped}
use Rattle.fws_ifcl.specs.Walk.{step_of, stepped, rules_walk as walk_rules}
use Rattle.fws_ifcl_rules.specs.Places.{sight, run}
use Rattle.fws_ifcl_rules.specs.Rules.{ruled}
use Rattle.fws_join.specs.declared.decision.Decision.{Decision}
use Rattle.fws_join.specs.Deciding.{StandsByParts, StandsFor, first_verdict}
use Rattle.fws_pf.specs.declared.config.PfRule.{PfRule}
use Rattle.fws_pf.specs.Walk.{view_on, tagged, is_met, rules_walk}
use Rattle.fws_pf_ifcl.specs.Blocks.{rule_of, puts_tag, behind_tags, tail_place, deciding, quick_rule, slow_rule, quick_rules, slow_rules, tail_rules}
use Rattle.fws_pf_ifcl.specs.Diagram.{pass_stage}
use Rattle.fws_pf_ifcl.proofs.Courses.{Course}
use Rattle.fws_pf_ifcl.proofs.Settling.{settled, left, left_by}

-- Where the tail begins

-- no rule puts a tag
abbrev pub Untagged : Bool → List PfRule → Type 0
Untagged outward rs = list_any (puts_tag outward) rs ≡ false

-- a place is the one so far, if no rule puts a tag, or one behind which none does
abbrev Found : Bool → ℕ → ℕ → List PfRule → ℕ → Type 0
Found outward place at rs n = ((n ≡ place) × Untagged outward rs) ⊎ ((k : ℕ) × (n ≡ at + k) × (k ≤ length rs) × Untagged outward (drop k rs))

found_first : (outward : Bool) (place at : ℕ) (r : PfRule) (rs : List PfRule) (n : ℕ) (b : Bool) → puts_tag outward r ≡ b → Found outward (cond b (at + 1) place) (at + 1) rs n
    → Found outward place at (r ∷ rs) n
found_first outward place at r rs n true is (inl h) = inr (1, h.0, omega arith, h.1)
found_first outward place at r rs n false is (inl h) = inl (h.0, ap (λ b. b || list_any (puts_tag outward) rs) is ∙ h.1)
found_first outward place at r rs n b is (inr h) = inr (suc h.0, omega (arith, h.1), omega (arith, h.2), h.3)

found : (outward : Bool) (place at : ℕ) (rs : List PfRule) → Found outward place at rs (behind_tags outward place at rs)
found outward place at [] = inl (refl, refl)
found outward place at (r ∷ rs) =
    let b = puts_tag outward r in
    found_first outward place at r rs (behind_tags outward place at (r ∷ rs)) b refl (found outward (cond b (at + 1) place) (at + 1) rs)

-- the place lies within the rules
within : (outward : Bool) (rs : List PfRule) (n : ℕ) → Found outward 0 0 rs n → n ≤ length rs
within outward rs n (inl h) = omega (arith, h.0)
within outward rs n (inr h) = omega (arith, h.1, h.2)

pub tail_within : (outward : Bool) (rs : List PfRule) → tail_place outward rs ≤ length rs
tail_within outward rs = within outward rs (tail_place outward rs) (found outward 0 0 rs)

-- no rule of the tail puts a tag
untagged : (outward : Bool) (rs : List PfRule) (n : ℕ) → Found outward 0 0 rs n → Untagged outward (drop n rs)
untagged outward rs n (inl h) = ap (λ k. list_any (puts_tag outward) (drop k rs)) h.0 ∙ h.1
untagged outward rs n (inr h) =
    let same : n ≡ h.0 = omega (arith, h.1) in
    ap (λ k. list_any (puts_tag outward) (drop k rs)) same ∙ h.3

pub tail_untagged : (outward : Bool) (rs : List PfRule) → Untagged outward (drop (tail_place outward rs) rs)
tail_untagged outward rs = untagged outward rs (tail_place outward rs) (found outward 0 0 rs)

-- a further rule ahead of those that aren't quick
slow_more : (outward : Bool) (rs : List PfRule) (r : PfRule) → slow_rules outward (rs ++ r ∷ []) ≡ slow_rule outward r ++ slow_rules outward rs
slow_more outward [] r = sym (append-nil (slow_rule outward r))
slow_more outward (first ∷ rs) r =
    ap (λ l. l ++ slow_rule outward first) (slow_more outward rs r) ∙ append_assoc (slow_rule outward r) (slow_rules outward rs) (slow_rule outward first)

-- decisions stand for others, one part behind the other
stands_on : StandsByParts → (a b one rest all o : List Decision) → all ≡ one ++ rest → StandsFor b (a ++ one) → StandsFor (a ++ all) o → StandsFor (b ++ rest) o
stands_on law a b one rest all o are put inv =
    law.through (b ++ rest) (a ++ all) o
    (subst (StandsFor (b ++ rest)) (append_assoc a one rest ∙ ap (λ l. a ++ l) (sym are)) (law.longer b (a ++ one) rest put)) inv

-- they are put from the last one on
pub slow_put : StandsByParts → (outward : Bool) (rs : List PfRule) (i : ℕ) (r d : PfRule) (a b o : List Decision) → 0 < i → i ≤ length rs → r ≡ get_or rs (i - 1) d
    → StandsFor b (a ++ slow_rule outward r) → StandsFor (a ++ slow_rules outward (take i rs)) o → StandsFor (b ++ slow_rules outward (take (i - 1) rs)) o
slow_put law outward rs i r d a b o lt le is put inv =
    let on : i ≡ suc (i - 1) = omega (arith, lt) in
    let less = slow_rules outward (take (i - 1) rs) in
    let more : slow_rules outward (take i rs) ≡ slow_rule outward r ++ less =
    ap (λ n. slow_rules outward (take n rs)) on
    ∙ ap (slow_rules outward) (take-suc rs (i - 1) d (omega (arith, lt, le)))
    ∙ slow_more outward (take (i - 1) rs) (get_or rs (i - 1) d)
    ∙ ap (λ x. slow_rule outward x ++ less) (sym is) in
    stands_on law a b (slow_rule outward r) less (slow_rules outward (take i rs)) o more put inv

pub slow_begun : StandsByParts → (outward : Bool) (rs : List PfRule) (n : ℕ) (a : List Decision) → n ≡ length rs → StandsFor (a ++ slow_rules outward (take n rs)) (a ++ slow_rules outward rs)
slow_begun law outward rs n a all =
    subst (λ l. StandsFor (a ++ slow_rules outward l) (a ++ slow_rules outward rs)) (sym (ap (λ k. take k rs) all ∙ take-length rs)) (law.same (a ++ slow_rules outward rs))

-- those that are quick are put from the first one on
behind_at : (rs : List PfRule) (i : ℕ) (d : PfRule) → i < length rs → drop i rs ≡ get_or rs i d ∷ drop (i + 1) rs
behind_at [] i d lt = absurd (omega arith)
behind_at (x ∷ rs) zero d lt = refl
behind_at (x ∷ rs) (suc i) d lt =
    let up : suc (i + 1) ≡ suc i + 1 = omega arith in behind_at rs i d (omega arith) ∙ ap (λ k. get_or rs i d ∷ drop k (x ∷ rs)) up

pub quick_put : StandsByParts → (outward : Bool) (rs : List PfRule) (i : ℕ) (r : PfRule) (a b o : List Decision) → i < length rs → r ≡ get_or rs i r
    → StandsFor b (a ++ quick_rule outward r) → StandsFor (a ++ quick_rules outward (drop i rs)) o → StandsFor (b ++ quick_rules outward (drop (i + 1) rs)) o
quick_put law outward rs i r a b o lt is put inv =
    let more : quick_rules outward (drop i rs) ≡ quick_rule outward r ++ quick_rules outward (drop (i + 1) rs) =
    ap (quick_rules outward) (behind_at rs i r lt ∙ ap (λ x. x ∷ drop (i + 1) rs) (sym is)) in
    stands_on law a b (quick_rule outward r) (quick_rules outward (drop (i + 1) rs)) (quick_rules outward (drop i rs)) o more put inv

-- nothing is left
pub none_behind : (rs : List PfRule) (n : ℕ) → length rs ≤ n → drop n rs ≡ []
none_behind [] zero le = refl
none_behind [] (suc n) le = refl
none_behind (r ∷ rs) zero le = absurd (omega arith)
none_behind (r ∷ rs) (suc n) le = none_behind rs n (omega arith)

pub none_left : (a b o : List Decision) → b ≡ [] → StandsFor (a ++ b) o → StandsFor a o
none_left a b o none inv = subst (λ l. StandsFor l o) (ap (λ l. a ++ l) none ∙ append-nil a) inv

-- both kinds, and what they become
pub both_put : StandsByParts → (quick slow : List Decision) (a b c d : List Decision) → a ≡ [] → StandsFor b (a ++ quick) → StandsFor c (b ++ slow) → StandsFor d c
    → StandsFor d (quick ++ slow)
both_put law quick slow a b c d none first second last =
    law.through d c (quick ++ slow) last
    (law.through c (b ++ slow) (quick ++ slow) second (subst (λ l. StandsFor (b ++ slow) ((l ++ quick) ++ slow)) none (law.longer b (a ++ quick) slow first)))

-- What the rules of the tail decide

-- a packet with a verdict, settled
abbrev held : Bool → Transit → Option Transit
held passes t = cond passes (Some (with_verdict true t)) None

held_decided : (passes : Bool) (t : Transit) → settled (decided (with_verdict passes t)) ≡ held passes t
held_decided true t = refl
held_decided false t = refl

-- a rule that may decide
abbrev choosing : Bool → Bool → Bool → Transit → Option Transit → Option Transit
choosing decides matches passes t o = cond decides (cond matches (held passes t) o) o

-- the first quick rule that matches, and of the others the last one
abbrev quick_or : Bool → View → List PfRule → Transit → Option Transit → Option Transit
quick_or outward v [] t o = o
quick_or outward v (r ∷ rs) t o = choosing (is_met r.way outward && r.quick) (holds r.cond v) r.pass t (quick_or outward v rs t o)

abbrev slow_or : Bool → View → List PfRule → Transit → Option Transit → Option Transit
slow_or outward v [] t o = o
slow_or outward v (r ∷ rs) t o = slow_or outward v rs t (choosing (is_met r.way outward && not r.quick) (holds r.cond v) r.pass t o)

-- Filter rules that put no tag

-- one of them, by what is known of it
rule_decides : (met matches quick pass : Bool) (tag : Option ℕ) (t : Transit) (passes : Bool) (go : Transit → Option Transit) (ahead back : Option Transit → Option Transit)
    → (met && is_some tag) ≡ false → ((b : Bool) → settled (go (with_verdict b t)) ≡ ahead (back (held b t)))
    → settled
    (cond (met && matches) (cond quick (decided (with_verdict pass (tagged tag (with_verdict passes t)))) (go (with_verdict pass (tagged tag (with_verdict passes t)))))
    (go (with_verdict passes t)))
    ≡ choosing (met && quick) matches pass t (ahead (back (choosing (met && not quick) matches pass t (held passes t))))
rule_decides false matches quick pass tag t passes go ahead back none next = next passes
rule_decides true matches quick pass (Some n) t passes go ahead back none next = absurd (false≢true (sym none))
rule_decides true false true pass None t passes go ahead back none next = next passes
rule_decides true false false pass None t passes go ahead back none next = next passes
rule_decides true true true pass None t passes go ahead back none next = held_decided pass t
rule_decides true true false pass None t passes go ahead back none next = next pass

-- all of them
filter_decides : (site : Site) (outward : Bool) (rs : List PfRule) (t : Transit) (passes : Bool) → Untagged outward rs
    → settled (rules_walk site outward rs (with_verdict passes t))
    ≡ quick_or outward (view_on site outward t) rs t (slow_or outward (view_on site outward t) rs t (held passes t))
filter_decides site outward [] t passes none = held_decided passes t
filter_decides site outward (r ∷ rs) t passes none =
    let v = view_on site outward t in
    let both = or_parts (puts_tag outward r) (list_any (puts_tag outward) rs) none in
    rule_decides (is_met r.way outward) (holds r.cond v) r.quick r.pass r.tag t passes (rules_walk site outward rs) (quick_or outward v rs t) (slow_or outward v rs t) both.0
    (λ b. filter_decides site outward rs t b both.1)

-- Their rules in the diagram

-- a walk through rules to the end of a pass
abbrev through : {outward : Bool} → Course New outward → ℕ → List Rule → Transit → Option Transit
through {outward} w at rules t = left (walk_rules w.enter w.site w.p New (pass_stage outward) at rules 0 t)

-- the first rule of a walk
first_rule : (outward : Bool) (w : Course New outward) (at : ℕ) (r : Rule) (rest : List Rule) (t : Transit)
    → walk_rules w.enter w.site w.p New (pass_stage outward) at (r ∷ rest) 0 t
    ≡ cond (holds r.cond (sight w t)) (stepped w.enter (walk_rules w.enter w.site w.p New (pass_stage outward) (suc at) rest) (step_of w.p New r.act t))
    (walk_rules w.enter w.site w.p New (pass_stage outward) (suc at) rest 0 t)
first_rule outward w at r rest t = cond-false (nat_lt at 0) _ _ (le-ltb at 0 (omega arith))

act_walk : (outward : Bool) (w : Course New outward) (pass : Bool) (test : List Lit) (rest : List Rule) (t : Transit) (o : Option Transit)
    → ((at : ℕ) → through w at rest t ≡ o) → (at : ℕ) → through w at (ruled test (cond pass Accept Drop) ∷ rest) t ≡ cond (holds test (sight w t)) (held pass t) o
act_walk outward w true test rest t o is at =
    let b = holds test (sight w t) in
    ap left (first_rule outward w at (ruled test Accept) rest t)
    ∙ left_by b (Accepted t) (walk_rules w.enter w.site w.p New (pass_stage outward) (suc at) rest 0 t)
    ∙ ap (cond b (held true t)) (is (suc at))
act_walk outward w false test rest t o is at =
    let b = holds test (sight w t) in
    ap left (first_rule outward w at (ruled test Drop) rest t)
    ∙ left_by b Dropped (walk_rules w.enter w.site w.p New (pass_stage outward) (suc at) rest 0 t)
    ∙ ap (cond b (held false t)) (is (suc at))

-- what the first decision that matches makes of a packet, or what is behind them
abbrev decided_by : Transit → Option Transit → Option Bool → Option Transit
decided_by t o None = o
decided_by t o (Some passes) = held passes t

one_by : (b passes : Bool) (t : Transit) (o : Option Transit) (more : Option Bool) → cond b (held passes t) (decided_by t o more) ≡ decided_by t o (cond b (Some passes) more)
one_by true passes t o more = refl
one_by false passes t o more = refl

-- decisions, to the end of the pass
decisions_walk : (outward : Bool) (w : Course New outward) (at : ℕ) (all : List Decision) (t : Transit)
    → through w at (map rule_of all) t ≡ decided_by t (held t.verdict t) (first_verdict (sight w t) all)
decisions_walk outward w at [] t = held_decided t.verdict t
decisions_walk outward w at (one ∷ all) t =
    act_walk outward w one.passes one.cond (map rule_of all) t (decided_by t (held t.verdict t) (first_verdict (sight w t) all))
    (λ n. decisions_walk outward w n all t) at
    ∙ one_by (holds one.cond (sight w t)) one.passes t (held t.verdict t) (first_verdict (sight w t) all)

-- those of filter rules

deciding_first : (v : View) (decides : Bool) (r : PfRule) (rest : List Decision) (t : Transit) (o : Option Transit)
    → decided_by t o (first_verdict v (deciding decides r ++ rest)) ≡ choosing decides (holds r.cond v) r.pass t (decided_by t o (first_verdict v rest))
deciding_first v false r rest t o = refl
deciding_first v true r rest t o = sym (one_by (holds r.cond v) r.pass t o (first_verdict v rest))

quick_first : (outward : Bool) (v : View) (rs : List PfRule) (rest : List Decision) (t : Transit) (o : Option Transit)
    → decided_by t o (first_verdict v (quick_rules outward rs ++ rest)) ≡ quick_or outward v rs t (decided_by t o (first_verdict v rest))
quick_first outward v [] rest t o = refl
quick_first outward v (r ∷ rs) rest t o =
    ap (λ l. decided_by t o (first_verdict v l)) (append_assoc (quick_rule outward r) (quick_rules outward rs) rest)
    ∙ deciding_first v (is_met r.way outward && r.quick) r (quick_rules outward rs ++ rest) t o
    ∙ ap (choosing (is_met r.way outward && r.quick) (holds r.cond v) r.pass t) (quick_first outward v rs rest t o)

slow_first : (outward : Bool) (v : View) (rs : List PfRule) (rest : List Decision) (t : Transit) (o : Option Transit)
    → decided_by t o (first_verdict v (slow_rules outward rs ++ rest)) ≡ slow_or outward v rs t (decided_by t o (first_verdict v rest))
slow_first outward v [] rest t o = refl
slow_first outward v (r ∷ rs) rest t o =
    let decides = is_met r.way outward && not r.quick in
    ap (λ l. decided_by t o (first_verdict v l)) (append_assoc (slow_rules outward rs) (slow_rule outward r) rest)
    ∙ slow_first outward v rs (slow_rule outward r ++ rest) t o
    ∙ ap (slow_or outward v rs t) (deciding_first v decides r rest t o)

-- the tail, to the end of the pass
pub tail_walk : (outward : Bool) (w : Course New outward) (at : ℕ) (rs : List PfRule) (tail : List Decision) → Untagged outward rs → StandsFor tail (tail_rules outward rs)
    → drop at w.full ≡ map rule_of tail → (t : Transit) → left (run w at t) ≡ settled (rules_walk w.site outward rs t)
tail_walk outward w at rs tail none stands are t =
    let v = sight w t in
    let o = held t.verdict t in
    let slow = slow_rules outward rs in
    ap (λ rules. through w at rules t) are
    ∙ decisions_walk outward w at tail t
    ∙ ap (decided_by t o) (stands v)
    ∙ quick_first outward v rs slow t o
    ∙ ap (quick_or outward v rs t) (ap (λ l. decided_by t o (first_verdict v l)) (sym (append-nil slow)) ∙ slow_first outward v rs [] t o)
    ∙ sym (filter_decides w.site outward rs t t.verdict none)
