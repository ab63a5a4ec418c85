-- What the rules ahead of the look-up of connections do.
use Rattle.std.proofs.Common.{◌≡◌, inl, inr, ℕ, zero, suc, ◌+◌, ◌<◌, ◌≤◌, Bool, true, false, cond, ◌||◌, not, nat_eq, nat_le, slice_index, Option, Some, None, List, [], ◌∷◌, ◌++◌, length, All, arith, refl, sym, ap, ◌∙◌, subst, append_assoc}
use Rattle.std.proofs.lemmas.Bool.{false≢true, le-leb, and_from}
use Rattle.std.proofs.lemmas.List.Elements.{All-append, All-cons, All-nil, All-weaker}
use Rattle.fws_box.specs.Sides.{IsWithin}
use Rattle.fws_iv.specs.Ivs.{has}
use Rattle.fws_net.specs.declared.connection.Kind.{Kind}
use Rattle.fws_net.specs.declared.connection.Kind.TheVariants.{New, Est}
use Rattle.fws_net.specs.declared.packet.Packet.{Packet}
use Rattle.fws_net.specs.declared.site.Site.{Site}
use Rattle.fws_net.specs.declared.transit.Transit.{Transit}
use Rattle.fws_net.specs.Points.{tops_of}
use Rattle.fws_net.specs.Transits.{has_tag}
use Rattle.fws_tree.specs.Plain.{Plain, value}
use Rattle.fws_ipfw.specs.declared.config.IpfwConfig.{IpfwConfig}
use Rattle.fws_ipfw.specs.declared.config.IpfwAct.TheVariants as acts
use Rattle.fws_ipfw.specs.declared.config.IpfwRule.{IpfwRule}
use Rattle.fws_ipfw.specs.declared.config.IpfwTag.TheVariants as tags
use Rattle.fws_ipfw.specs.declared.pass.Pass.{Pass}
use Rattle.fws_ipfw.specs.RuleText.{allows}
use Rattle.fws_ipfw.specs.Walk.{rules_walk, step_of, stepped, tagged}
use Rattle.fws_ipfw_put_rules.specs.declared.choice.Section.{Section}
use Rattle.fws_ipfw_put_rules.specs.Lists.{NeverAllows, act_of, is_of, tag_of}
use Rattle.fws_tree_seen.specs.declared.seen.Seen.TheVariants.{Entered, Routed}
use Rattle.fws_tree_seen.specs.Shown.{IsSeenAs}
use Rattle.fws_ipfw_put.specs.Guards.{IsFullGuard, IsGuard, IsImageList, IsNoGuard}
use Rattle.fws_ipfw_put.specs.Layout.{arrived_tag, inward, known_arriving, known_forwarded, known_sent, leaving_rules, lookup_number, lookup_rules, outwards, passing, plain_rule, source_number, tagged_with, unreceived}
use Rattle.fws_ipfw_put.proofs.Nats.{some_is}
use Rattle.fws_ipfw_put.proofs.Passing.{passed_over}

-- Numbers

abbrev pub Above : ℕ → List IpfwRule → Type 0
Above n rules = All (λ (r : IpfwRule). n < r.number) rules

abbrev pub Below : ℕ → List IpfwRule → Type 0
Below n rules = All (λ (r : IpfwRule). r.number < n) rules

abbrev pub Numbered : ℕ → List IpfwRule → Type 0
Numbered n rules = All (λ (r : IpfwRule). r.number ≡ n) rules

pub numbered_above : (n k : ℕ) (rules : List IpfwRule) → k < n → Numbered n rules → Above k rules
numbered_above n k rules low all = All-weaker (λ (r : IpfwRule). r.number ≡ n) (λ (r : IpfwRule). k < r.number) (λ r is. omega (arith, is, low)) rules all

pub numbered_below : (n k : ℕ) (rules : List IpfwRule) → n < k → Numbered n rules → Below k rules
numbered_below n k rules low all = All-weaker (λ (r : IpfwRule). r.number ≡ n) (λ (r : IpfwRule). r.number < k) (λ r is. omega (arith, is, low)) rules all

pub above_less : (n k : ℕ) (rules : List IpfwRule) → k ≤ n → Above n rules → Above k rules
above_less n k rules low all = All-weaker (λ (r : IpfwRule). n < r.number) (λ (r : IpfwRule). k < r.number) (λ r is. omega (arith, is, low)) rules all

pub above_both : (n : ℕ) (front back : List IpfwRule) → Above n front → Above n back → Above n (front ++ back)
above_both n front back first second = All-append (λ (r : IpfwRule). n < r.number) front back first second

two_high : (n : ℕ) (a b : IpfwRule) → n < a.number → n < b.number → Above n (a ∷ b ∷ [])
two_high n a b first second =
    let P : IpfwRule → Type 0 = λ (r : IpfwRule). n < r.number in
    All-cons P a (b ∷ []) first (All-cons P b [] second (All-nil P))

two_low : (n : ℕ) (a b : IpfwRule) → a.number < n → b.number < n → Below n (a ∷ b ∷ [])
two_low n a b first second =
    let P : IpfwRule → Type 0 = λ (r : IpfwRule). r.number < n in
    All-cons P a (b ∷ []) first (All-cons P b [] second (All-nil P))

three_high : (n : ℕ) (a b c : IpfwRule) (rest : List IpfwRule) → n < a.number → n < b.number → n < c.number → Above n rest → Above n (a ∷ b ∷ c ∷ rest)
three_high n a b c rest first second third others =
    let P : IpfwRule → Type 0 = λ (r : IpfwRule). n < r.number in
    All-cons P a (b ∷ c ∷ rest) first (All-cons P b (c ∷ rest) second (All-cons P c rest third others))

abbrev pub arrived_leave : IpfwRule
arrived_leave = plain_rule 2000 (outwards ∷ tagged_with arrived_tag ∷ []) (acts.Skip lookup_number)

abbrev pub own_leave : Site → IpfwRule
own_leave site = plain_rule 2100 (outwards ∷ unreceived site ∷ []) (acts.Skip 4000)

abbrev pub looked_up : IpfwRule
looked_up = plain_rule lookup_number [] acts.Check

abbrev pub tags_arriving : IpfwRule
tags_arriving = record { number = 5100; cond = inward ∷ []; act = acts.Count; tag = tags.Add arrived_tag; keep = false }

abbrev pub goes_on : IpfwRule
goes_on = plain_rule 5200 (outwards ∷ tagged_with arrived_tag ∷ []) (acts.Skip source_number)

-- the look-up stands behind all of them
pub lookup_above : (n : ℕ) (rest : List IpfwRule) → n < 5000 → Above 5000 rest → Above n (lookup_rules ++ rest)
lookup_above n rest low high =
    three_high n looked_up tags_arriving goes_on rest low (omega (arith, low)) (omega (arith, low)) (above_less 5000 n rest (omega (arith, low)) high)

leaving_above : (n : ℕ) (site : Site) → n < 2000 → Above n (leaving_rules site)
leaving_above n site low = two_high n arrived_leave (own_leave site) low (omega (arith, low))

leaving_below : (n : ℕ) (site : Site) → 2100 < n → Below n (leaving_rules site)
leaving_below n site high = two_low n arrived_leave (own_leave site) (omega (arith, high)) high

-- Lists that pass or drop

never_allows : (b : Bool) → allows (act_of (passing b)) ≡ false
never_allows true = refl
never_allows false = refl

module _ (site : Site) (section : Section) (t : Plain Bool) (block : List IpfwRule) (l : IsImageList site section passing t block) where
  never : NeverAllows (tops_of site) l.choices
  never p choice within is =
      let made = l.made p within in
      subst (λ x. allows (act_of x) ≡ false) (some_is (sym made.2 ∙ is)) (never_allows made.0)

  -- what the tree holds true goes on at the look-up
  list_passes : (c : IpfwConfig) (p : Packet) (k : Kind) (rest : List IpfwRule) (to : ℕ) (m : Pass) (x : List ℕ) (b : Bool) → to ≤ section.number → Above section.number rest
      → is_of section.origin m.transit.packet ≡ true → slice_index x 0 ≡ m.transit.packet.entry → IsWithin (tops_of site) x → IsSeenAs section.seen m.transit.packet x → value t x ≡ Some b
      → rules_walk c site p k section.outward (block ++ rest) to m ≡ cond b (rules_walk c site p k section.outward rest 5000 m) None
  list_passes c p k rest to m x b low above of_origin entry within sees is =
      let made = l.made x within in
      let chosen = made.2 ∙ ap (λ v. Some (passing v)) (some_is (sym made.1 ∙ is)) in
      l.list.decides c p k rest to m x (passing b) low above (inr never) of_origin entry within sees chosen ∙ passed b where
        passed : (b : Bool) → stepped (rules_walk c site p k section.outward rest) (step_of c site p k section.outward (act_of (passing b)) (record m { transit = tagged (tag_of (passing b)) m.transit }))
            ≡ cond b (rules_walk c site p k section.outward rest 5000 m) None
        passed true = refl
        passed false = refl

  list_lets_by : (c : IpfwConfig) (p : Packet) (k : Kind) (rest : List IpfwRule) (to : ℕ) (m : Pass) → to ≤ section.number → Above section.number rest
      → rules_walk c site p k (not section.outward) (block ++ rest) to m ≡ rules_walk c site p k (not section.outward) rest to m
  list_lets_by c p k rest to m low above = l.list.lets_by c p k rest to m low above (inr never)

-- The rules between the lists

leaving_tagged : (c : IpfwConfig) (site : Site) (p : Packet) (k : Kind) (rest : List IpfwRule) (m : Pass) → has_tag 1 m.transit ≡ true
    → rules_walk c site p k true (leaving_rules site ++ rest) 0 m ≡ rules_walk c site p k true rest 5000 m
leaving_tagged c site p New rest m tag = rw tag refl
leaving_tagged c site p (Est r) rest m tag = rw tag refl

leaving_received : (c : IpfwConfig) (site : Site) (p : Packet) (k : Kind) (rest : List IpfwRule) (m : Pass) → has_tag 1 m.transit ≡ false → nat_eq m.transit.packet.entry 0 ≡ false
    → has (record { lo = 1; hi = length site.faces + 1 } ∷ []) m.transit.packet.entry ≡ true
    → rules_walk c site p k true (leaving_rules site ++ rest) 0 m ≡ rules_walk c site p k true rest 0 m
leaving_received c site p New rest m tag arrives there = rw tag (rw arrives (rw there refl))
leaving_received c site p (Est r) rest m tag arrives there = rw tag (rw arrives (rw there refl))

leaving_own : (c : IpfwConfig) (site : Site) (p : Packet) (k : Kind) (rest : List IpfwRule) (m : Pass) → has_tag 1 m.transit ≡ false → nat_eq m.transit.packet.entry 0 ≡ true
    → rules_walk c site p k true (leaving_rules site ++ rest) 0 m ≡ rules_walk c site p k true rest 4000 m
leaving_own c site p New rest m tag own = rw tag (rw own refl)
leaving_own c site p (Est r) rest m tag own = rw tag (rw own refl)

-- The whole

-- what the rules do with packets, ahead of the look-up
pub record Guards (c : IpfwConfig) (site : Site) (packet behind : Plain Bool) (guard : List IpfwRule) : Type 0 where
  pub arrives : (p : Packet) (k : Kind) (rest : List IpfwRule) (m : Pass) (x : List ℕ) (b : Bool) → Above 5000 rest → nat_eq m.transit.packet.entry 0 ≡ false
      → slice_index x 0 ≡ m.transit.packet.entry → IsWithin (tops_of site) x → IsSeenAs Entered m.transit.packet x → value packet x ≡ Some b
      → rules_walk c site p k false (guard ++ (lookup_rules ++ rest)) 0 m ≡ cond b (rules_walk c site p k false (lookup_rules ++ rest) 0 m) None
  pub forwarded : (p : Packet) (k : Kind) (rest : List IpfwRule) (m : Pass) (x : List ℕ) (b : Bool) → Above 5000 rest → has_tag 1 m.transit ≡ false
      → nat_eq m.transit.packet.entry 0 ≡ false → slice_index x 0 ≡ m.transit.packet.entry → IsWithin (tops_of site) x → IsSeenAs Routed m.transit.packet x
      → value behind x ≡ Some b
      → rules_walk c site p k true (guard ++ (lookup_rules ++ rest)) 0 m ≡ cond b (rules_walk c site p k true (lookup_rules ++ rest) 0 m) None
  pub sent : (p : Packet) (k : Kind) (rest : List IpfwRule) (m : Pass) (x : List ℕ) (b : Bool) → Above 5000 rest → has_tag 1 m.transit ≡ false
      → nat_eq m.transit.packet.entry 0 ≡ true → slice_index x 0 ≡ m.transit.packet.entry → IsWithin (tops_of site) x → IsSeenAs Routed m.transit.packet x
      → value behind x ≡ Some b
      → rules_walk c site p k true (guard ++ (lookup_rules ++ rest)) 0 m ≡ cond b (rules_walk c site p k true (lookup_rules ++ rest) 0 m) None
  pub tagged : (p : Packet) (k : Kind) (rest : List IpfwRule) (m : Pass) → Above 5000 rest → has_tag 1 m.transit ≡ true
      → rules_walk c site p k true (guard ++ (lookup_rules ++ rest)) 0 m ≡ rules_walk c site p k true (lookup_rules ++ rest) 0 m

-- without rules nothing is dropped
module _ (c : IpfwConfig) (site : Site) (packet behind : Plain Bool) where
  none_guards : IsNoGuard site packet behind [] → Guards c site packet behind []
  none_guards n = record {
    arrives = λ p k rest m x b above arrives entry within sees is.
        ap (λ v. cond v (rules_walk c site p k false (lookup_rules ++ rest) 0 m) None) (some_is (sym (n.packet_true x within) ∙ is));
    forwarded = λ p k rest m x b above tag arrives entry within sees is.
        ap (λ v. cond v (rules_walk c site p k true (lookup_rules ++ rest) 0 m) None) (some_is (sym (n.behind_true x within) ∙ is));
    sent = λ p k rest m x b above tag own entry within sees is.
        ap (λ v. cond v (rules_walk c site p k true (lookup_rules ++ rest) 0 m) None) (some_is (sym (n.behind_true x within) ∙ is));
    tagged = λ p k rest m above tag. refl;
  }

module _ (c : IpfwConfig) (site : Site) (packet behind : Plain Bool) (guard : List IpfwRule) (f : IsFullGuard site packet behind guard) where
  module _ (rest : List IpfwRule) (above : Above 5000 rest) where
    abbrev after : List IpfwRule
    after = lookup_rules ++ rest

    abbrev third : List IpfwRule
    third = f.sent ++ after

    abbrev second : List IpfwRule
    second = f.forwarded ++ third

    abbrev first : List IpfwRule
    first = leaving_rules site ++ second

    grouped : guard ++ after ≡ f.arriving ++ first
    grouped =
        ap (λ l. l ++ after) f.are
        ∙ append_assoc ((f.arriving ++ leaving_rules site) ++ f.forwarded) f.sent after
        ∙ append_assoc (f.arriving ++ leaving_rules site) f.forwarded third
        ∙ append_assoc f.arriving (leaving_rules site) second

    third_above : Above 3000 third
    third_above = above_both 3000 f.sent after (numbered_above 4000 3000 f.sent (omega arith) f.sent_list.list.numbered) (lookup_above 3000 rest (omega arith) above)

    first_above : Above 1000 first
    first_above =
        above_both 1000 (leaving_rules site) second (leaving_above 1000 site (omega arith))
        (above_both 1000 f.forwarded third (numbered_above 3000 1000 f.forwarded (omega arith) f.forwarded_list.list.numbered) (above_less 3000 1000 third (omega arith) third_above))

    module _ (p : Packet) (k : Kind) (outward : Bool) (m : Pass) where
      abbrev runs : List IpfwRule → ℕ → Option Transit
      runs rules to = rules_walk c site p k outward rules to m

      past_sent : runs third 5000 ≡ runs after 0
      past_sent = passed_over c site p k outward f.sent after 5000 m (numbered_below 4000 5000 f.sent (omega arith) f.sent_list.list.numbered)

      past_forwarded : runs second 5000 ≡ runs after 0
      past_forwarded = passed_over c site p k outward f.forwarded third 5000 m (numbered_below 3000 5000 f.forwarded (omega arith) f.forwarded_list.list.numbered) ∙ past_sent

      past_leaving : runs first 5000 ≡ runs after 0
      past_leaving = passed_over c site p k outward (leaving_rules site) second 5000 m (leaving_below 5000 site (omega arith)) ∙ past_forwarded

  -- an entry that isn't the host's is an interface's
  entry_there : (x : List ℕ) (e : ℕ) → IsWithin (tops_of site) x → slice_index x 0 ≡ e → nat_eq e 0 ≡ false → has (record { lo = 1; hi = length site.faces + 1 } ∷ []) e ≡ true
  entry_there [] e within is arrives = absurd within
  entry_there (a ∷ x) zero within is arrives = absurd (false≢true (sym arrives))
  entry_there (a ∷ x) (suc e) within is arrives =
      let le : a ≤ length site.faces + 1 = within.0 in
      ap (λ b. b || false) (and_from (nat_le 1 (suc e)) (nat_le (suc e) (length site.faces + 1)) (le-leb 1 (suc e) (omega arith)) (le-leb (suc e) (length site.faces + 1) (omega (arith, is, le))))

  full_guards : Guards c site packet behind guard
  full_guards = record {
    arrives = λ p k rest m x b above arrives entry within sees is.
        ap (λ l. rules_walk c site p k false l 0 m) (grouped rest above)
        ∙ list_passes site known_arriving packet f.arriving f.arriving_list c p k (first rest above) 0 m x b (omega arith) (first_above rest above) (ap not arrives) entry within sees is
        ∙ ap (λ o. cond b o None) (past_leaving rest above p k false m);
    forwarded = λ p k rest m x b above tag arrives entry within sees is.
        ap (λ l. rules_walk c site p k true l 0 m) (grouped rest above)
        ∙ list_lets_by site known_arriving packet f.arriving f.arriving_list c p k (first rest above) 0 m (omega arith) (first_above rest above)
        ∙ leaving_received c site p k (second rest above) m tag arrives (entry_there x m.transit.packet.entry within entry arrives)
        ∙ list_passes site known_forwarded behind f.forwarded f.forwarded_list c p k (third rest above) 0 m x b (omega arith) (third_above rest above) (ap not arrives) entry within sees is
        ∙ ap (λ o. cond b o None) (past_sent rest above p k true m);
    sent = λ p k rest m x b above tag own entry within sees is.
        ap (λ l. rules_walk c site p k true l 0 m) (grouped rest above)
        ∙ list_lets_by site known_arriving packet f.arriving f.arriving_list c p k (first rest above) 0 m (omega arith) (first_above rest above)
        ∙ leaving_own c site p k (second rest above) m tag own
        ∙ passed_over c site p k true f.forwarded (third rest above) 4000 m (numbered_below 3000 4000 f.forwarded (omega arith) f.forwarded_list.list.numbered)
        ∙ list_passes site known_sent behind f.sent f.sent_list c p k (after rest above) 4000 m x b (omega arith) (lookup_above 4000 rest (omega arith) above) own entry within sees is;
    tagged = λ p k rest m above tag.
        ap (λ l. rules_walk c site p k true l 0 m) (grouped rest above)
        ∙ list_lets_by site known_arriving packet f.arriving f.arriving_list c p k (first rest above) 0 m (omega arith) (first_above rest above)
        ∙ leaving_tagged c site p k (second rest above) m tag
        ∙ past_forwarded rest above p k true m;
  }

pub guards : (c : IpfwConfig) (site : Site) (packet behind : Plain Bool) (guard : List IpfwRule) → IsGuard site packet behind guard → Guards c site packet behind guard
guards c site packet behind guard (inl n) =
    subst (Guards c site packet behind) (sym n.none) (none_guards c site packet behind (subst (IsNoGuard site packet behind) n.none n))
guards c site packet behind guard (inr f) = full_guards c site packet behind guard f
