-- Blocks of rules, put together.
use Rattle.std.proofs.Common.{◌≡◌, ℕ, ◌<◌, ◌≤◌, Bool, true, false, ◌&&◌, ◌||◌, not, cond, Option, Some, None, List, [], ◌∷◌, ◌++◌, inl, inr, refl, sym, ◌∙◌, ap, arith, append_assoc}
use Rattle.std.proofs.lemmas.Bool.{and_from, and_parts, or_parts, cases_Bool, cond-true, cond-false, false≢true, lt-ltb, not-true}
use Rattle.std.proofs.lemmas.Bool.Decides.{nat_tests}
use Rattle.std.proofs.lemmas.List.Elements.{All-append, All-cons, All-head, All-nil, All-tail, All-weaker}
use Rattle.std.proofs.lemmas.List.Folds.{list_all-append}
use Rattle.std.specs.List.{list_all}
use Rattle.std.specs.Prelude.{nat_le, nat_lt, All}
use Rattle.fws_net.specs.declared.condition.Lit.{Lit}
use Rattle.fws_net.specs.declared.connection.Kind.{Kind}
use Rattle.fws_net.specs.declared.packet.Packet.{Packet}
use Rattle.fws_net.specs.declared.site.Site.{Site}
use Rattle.fws_net.specs.declared.transit.Transit.{Transit}
use Rattle.fws_net.specs.declared.view.View.{View}
use Rattle.fws_net.specs.Conditions.{holds}
use Rattle.fws_net.specs.Connections.{is_est}
use Rattle.fws_ipfw.specs.declared.config.IpfwConfig.{IpfwConfig}
use Rattle.fws_ipfw.specs.declared.config.IpfwNat.{IpfwNat}
use Rattle.fws_ipfw.specs.declared.config.IpfwRule.{IpfwRule}
use Rattle.fws_ipfw.specs.declared.pass.Pass.{Pass}
use Rattle.fws_ipfw.specs.RuleText.{allows}
use Rattle.fws_ipfw.specs.Walk.{ended, rules_walk, step_of, stepped, tagged, view_on}
use Rattle.fws_ipfw_print.specs.Printable.{is_printed_cond, is_printed_rule, is_printed_tag}
use Rattle.fws_tree.specs.Plain.{Plain}
use Rattle.fws_ipfw_put_rules.specs.declared.choice.Choice.{Choice}
use Rattle.fws_ipfw_put_rules.specs.declared.choice.Choice.TheVariants.{Deny, Allow, Skip}
use Rattle.fws_ipfw_put_rules.specs.declared.choice.Section.{Section}
use Rattle.fws_ipfw_put_rules.specs.Blocks.{chosen, is_quiet, lets_through, AreRulesFor, IsBlock, IsFine}
use Rattle.fws_ipfw_put_rules.specs.Leaves.{all_leaves}
use Rattle.fws_ipfw_put_rules.specs.Lists.{act_of, fits_at, is_plain, is_tag, rule_of, tag_for}

-- ---- walks

not_below : (a b : ℕ) → b ≤ a → nat_lt a b ≡ false
not_below a b le = grind (arith, nat_tests)

-- a walk that begins at a number begins anywhere below it
early : (c : IpfwConfig) (site : Site) (p : Packet) (k : Kind) (outward : Bool) (rest : List IpfwRule) (number to : ℕ) (m : Pass)
    → to ≤ number → All (λ r. number ≤ r.number) rest → rules_walk c site p k outward rest 0 m ≡ rules_walk c site p k outward rest to m
early c site p k outward [] number to m le below = refl
early c site p k outward (r ∷ rest) number to m le below =
    let low = All-head (λ (r : IpfwRule). number ≤ r.number) r rest below in
    let here : Option Transit = cond (is_est k && r.keep) (Some (ended k outward m)) (cond (holds r.cond (view_on site k outward m.transit))
    (stepped (rules_walk c site p k outward rest) (step_of c site p k outward r.act (record m { transit = tagged r.tag m.transit })))
    (rules_walk c site p k outward rest 0 m)) in
    cond-false (nat_lt r.number 0) (rules_walk c site p k outward rest 0 m) here (not_below r.number 0 (omega arith))
    ∙ sym (cond-false (nat_lt r.number to) (rules_walk c site p k outward rest to m) here (not_below r.number to (omega arith)))

-- rules with numbers below are passed over
over : (c : IpfwConfig) (site : Site) (p : Packet) (k : Kind) (outward : Bool) (block rest : List IpfwRule) (number to : ℕ) (m : Pass)
    → number < to → All (λ r. r.number ≡ number) block → rules_walk c site p k outward (block ++ rest) to m ≡ rules_walk c site p k outward rest to m
over c site p k outward [] rest number to m lt at = refl
over c site p k outward (r ∷ block) rest number to m lt at =
    let is = All-head (λ (r : IpfwRule). r.number ≡ number) r block at in
    cond-true (nat_lt r.number to) (rules_walk c site p k outward (block ++ rest) to m) _ (lt-ltb r.number to (omega (arith, is)))
    ∙ over c site p k outward block rest number to m lt (All-tail (λ (r : IpfwRule). r.number ≡ number) r block at)

-- rules of the same number behind a choice make no difference to it
chosen_over : (c : IpfwConfig) (site : Site) (p : Packet) (k : Kind) (outward : Bool) (block rest : List IpfwRule) (number : ℕ) (m : Pass) (w : Choice)
    → fits_at number w ≡ true → All (λ r. r.number ≡ number) block → chosen c site p k outward (block ++ rest) m w ≡ chosen c site p k outward rest m w
chosen_over c site p k outward block rest number m Deny fits at = refl
chosen_over c site p k outward block rest number m (Allow tag) fits at = refl
chosen_over c site p k outward block rest number m (Skip n tag) fits at =
    let parts = and_parts (nat_lt number n && nat_le n 65534) (is_tag tag) fits in
    let first = and_parts (nat_lt number n) (nat_le n 65534) parts.0 in
    over c site p k outward block rest number n _ (below number n first.0) at
  where
    below : (a b : ℕ) → nat_lt a b ≡ true → a < b
    below a b e = grind (arith, nat_tests)

-- ---- blocks

pub no_block : (site : Site) (number : ℕ) (t : Plain Choice) → IsBlock site number t []
no_block site number t = record {
  numbered = All-nil (λ r. r.number ≡ number);
  printed = λ nats. refl;
  plain = refl;
  quiet = λ k h. refl;
}

pub both_blocks : (site : Site) (number : ℕ) (t : Plain Choice) (a b : List IpfwRule) → IsBlock site number t a → IsBlock site number t b → IsBlock site number t (a ++ b)
both_blocks site number t a b h g = record {
  numbered = All-append (λ r. r.number ≡ number) a b h.numbered g.numbered;
  printed = λ nats. list_all-append (is_printed_rule site nats) a b ∙ and_from (list_all (is_printed_rule site nats) a) (list_all (is_printed_rule site nats) b) (h.printed nats) (g.printed nats);
  plain = list_all-append is_plain a b ∙ and_from (list_all is_plain a) (list_all is_plain b) h.plain g.plain;
  quiet = λ k all. list_all-append (λ r. not (is_est k && r.keep)) a b ∙ and_from (lets_through k a) (lets_through k b) (h.quiet k all) (g.quiet k all);
}

-- ---- rules

pub no_rules : (tops : List ℕ) (section : Section) (Is : View → Choice → Type 0) (test : View → Bool) → ((v : View) → test v ≡ false) → AreRulesFor tops section Is test []
no_rules tops section Is test none = record {
  passes = λ c site p k outward rest to m le low quiet fails. refl;
  decides = λ c site p k outward rest to m le low quiet fine is. absurd (false≢true (sym (none (view_on site k outward m.transit)) ∙ is));
}

-- the same rules for an equal test and what follows
pub rules_same : (tops : List ℕ) (section : Section) (Is Js : View → Choice → Type 0) (test other : View → Bool) (block : List IpfwRule)
    → ((v : View) → other v ≡ test v) → ((v : View) (w : Choice) → IsFine tops section v → test v ≡ true → Is v w → Js v w)
    → AreRulesFor tops section Is test block → AreRulesFor tops section Js other block
rules_same tops section Is Js test other block same gives h = record {
  passes = λ c site p k outward rest to m le low quiet fails. h.passes c site p k outward rest to m le low quiet (sym (same (view_on site k outward m.transit)) ∙ fails);
  decides = λ c site p k outward rest to m le low quiet fine is.
      let v : View = view_on site k outward m.transit in
      let held : test v ≡ true = sym (same v) ∙ is in
      let r = h.decides c site p k outward rest to m le low quiet fine held in
      (r.0, gives v r.0 fine held r.1, r.2, r.3);
}

-- rules behind others: the others make the choice where they do, and these where the others let by
pub rules_both : (tops : List ℕ) (section : Section) (Is Js Ks : View → Choice → Type 0) (first second both : View → Bool) (a b : List IpfwRule)
    → ((v : View) → both v ≡ (first v || second v))
    → ((v : View) (w : Choice) → IsFine tops section v → first v ≡ true → Is v w → Ks v w)
    → ((v : View) (w : Choice) → IsFine tops section v → first v ≡ false → second v ≡ true → Js v w → Ks v w)
    → All (λ r. r.number ≡ section.number) b → AreRulesFor tops section Is first a → AreRulesFor tops section Js second b → AreRulesFor tops section Ks both (a ++ b)
rules_both tops section Is Js Ks first second both a b same left right at h g = record {
  passes = λ c site p k outward rest to m le low quiet fails.
      let v : View = view_on site k outward m.transit in
      let parts = or_parts (first v) (second v) (sym (same v) ∙ fails) in
      let through = split k quiet in
      ap (λ l. rules_walk c site p k outward l to m) (append_assoc a b rest)
      ∙ h.passes c site p k outward (b ++ rest) to m le (behind rest low) through.0 parts.0
      ∙ g.passes c site p k outward rest to m le low through.1 parts.1;
  decides = λ c site p k outward rest to m le low quiet fine is.
      let v : View = view_on site k outward m.transit in
      let through = split k quiet in
      let walk : rules_walk c site p k outward ((a ++ b) ++ rest) to m ≡ rules_walk c site p k outward (a ++ (b ++ rest)) to m = ap (λ l. rules_walk c site p k outward l to m) (append_assoc a b rest) in
      elim (cases_Bool (first v)) [
        | inl y ↦ (let r = h.decides c site p k outward (b ++ rest) to m le (behind rest low) through.0 fine y in
            (r.0, left v r.0 fine y r.1, r.2, walk ∙ r.3 ∙ chosen_over c site p k outward b rest section.number m r.0 r.2 at))
        | inr n ↦ (let held : second v ≡ true = sym (ap (λ x. x || second v) n) ∙ sym (same v) ∙ is in
            let r = g.decides c site p k outward rest to m le low through.1 fine held in
            (r.0, right v r.0 fine n held r.1, r.2, walk ∙ h.passes c site p k outward (b ++ rest) to m le (behind rest low) through.0 n ∙ r.3))
      ];
}
  where
    split : (k : Kind) → lets_through k (a ++ b) ≡ true → (lets_through k a ≡ true) × (lets_through k b ≡ true)
    split k e = and_parts (lets_through k a) (lets_through k b) (sym (list_all-append (λ r. not (is_est k && r.keep)) a b) ∙ e)

    behind : (rest : List IpfwRule) → All (λ r. section.number ≤ r.number) rest → All (λ r. section.number ≤ r.number) (b ++ rest)
    behind rest low = All-append (λ r. section.number ≤ r.number) b rest (All-weaker (λ (r : IpfwRule). r.number ≡ section.number) (λ r. section.number ≤ r.number) (λ r e. omega (arith, e)) b at) low

-- ---- the rule of a choice

tag_printed : (tag : Option ℕ) → is_tag tag ≡ true → is_printed_tag (tag_for tag) ≡ true
tag_printed None e = refl
tag_printed (Some n) e = e

six : (a b c d : Bool) → a ≡ true → b ≡ true → c ≡ true → d ≡ true → (a && b && c && d && true && true) ≡ true
six true true true true e f g h = refl
six false b c d e f g h = absurd (false≢true e)
six true false c d e f g h = absurd (false≢true f)
six true true false d e f g h = absurd (false≢true g)
six true true true false e f g h = absurd (false≢true h)

rule_printed : (site : Site) (nats : List IpfwNat) (number : ℕ) (conds : List Lit) (w : Choice) → nat_lt 0 number && nat_le number 65534 ≡ true → is_printed_cond site conds ≡ true → fits_at number w ≡ true
    → is_printed_rule site nats (rule_of number conds w) ≡ true
rule_printed site nats number conds Deny n c fits = six (nat_lt 0 number && nat_le number 65534) (is_printed_cond site conds) true true n c refl refl
rule_printed site nats number conds (Allow tag) n c fits =
    six (nat_lt 0 number && nat_le number 65534) (is_printed_cond site conds) true (is_printed_tag (tag_for tag)) n c refl (tag_printed tag fits)
rule_printed site nats number conds (Skip to tag) n c fits =
    let parts = and_parts (nat_lt number to && nat_le to 65534) (is_tag tag) fits in
    six (nat_lt 0 number && nat_le number 65534) (is_printed_cond site conds) (nat_lt number to && nat_le to 65534) (is_printed_tag (tag_for tag)) n c parts.0 (tag_printed tag parts.1)

rule_plain : (number : ℕ) (conds : List Lit) (w : Choice) → is_plain (rule_of number conds w) ≡ true
rule_plain number conds Deny = refl
rule_plain number conds (Allow tag) = refl
rule_plain number conds (Skip to tag) = refl

pub rule_block : (site : Site) (number : ℕ) (t : Plain Choice) (conds : List Lit) (w : Choice) → nat_lt 0 number && nat_le number 65534 ≡ true → is_printed_cond site conds ≡ true → fits_at number w ≡ true
    → ((k : Kind) → all_leaves (is_quiet k) t ≡ true → is_quiet k w ≡ true) → IsBlock site number t (rule_of number conds w ∷ [])
rule_block site number t conds w n c fits quiet = record {
  numbered = All-cons (λ r. r.number ≡ number) (rule_of number conds w) [] refl (All-nil (λ r. r.number ≡ number));
  printed = λ nats. and_from (is_printed_rule site nats (rule_of number conds w)) true (rule_printed site nats number conds w n c fits) refl;
  plain = and_from (is_plain (rule_of number conds w)) true (rule_plain number conds w) refl;
  quiet = λ k h. and_from (is_quiet k w) true (quiet k h) refl;
}

pub rule_decides : (tops : List ℕ) (section : Section) (Is : View → Choice → Type 0) (conds : List Lit) (w : Choice) → fits_at section.number w ≡ true → ((v : View) → Is v w)
    → AreRulesFor tops section Is (λ v. holds conds v) (rule_of section.number conds w ∷ [])
rule_decides tops section Is conds w fits is = record {
  passes = λ c site p k outward rest to m le low quiet fails.
      let number : ℕ = section.number in
      reached c site p k outward rest to m le quiet
      ∙ cond-false (holds conds (view_on site k outward m.transit)) (chosen c site p k outward rest m w) (rules_walk c site p k outward rest 0 m) fails
      ∙ early c site p k outward rest number to m le low;
  decides = λ c site p k outward rest to m le low quiet fine held. (
    w,
    is (view_on site k outward m.transit),
    fits,
    reached c site p k outward rest to m le quiet
        ∙ cond-true (holds conds (view_on site k outward m.transit)) (chosen c site p k outward rest m w) (rules_walk c site p k outward rest 0 m) held,
  );
}
  where
    reached : (c : IpfwConfig) (site : Site) (p : Packet) (k : Kind) (outward : Bool) (rest : List IpfwRule) (to : ℕ) (m : Pass) → to ≤ section.number → lets_through k (rule_of section.number conds w ∷ []) ≡ true
        → rules_walk c site p k outward (rule_of section.number conds w ∷ rest) to m ≡ cond (holds conds (view_on site k outward m.transit)) (chosen c site p k outward rest m w) (rules_walk c site p k outward rest 0 m)
    reached c site p k outward rest to m le quiet =
        let end : Option Transit = cond (holds conds (view_on site k outward m.transit)) (chosen c site p k outward rest m w) (rules_walk c site p k outward rest 0 m) in
        cond-false (nat_lt section.number to) (rules_walk c site p k outward rest to m) (cond (is_est k && allows (act_of w)) (Some (ended k outward m)) end) (not_below section.number to le)
        ∙ cond-false (is_est k && allows (act_of w)) (Some (ended k outward m)) end (not-true (is_est k && allows (act_of w)) (and_parts (not (is_est k && allows (act_of w))) true quiet).0)
