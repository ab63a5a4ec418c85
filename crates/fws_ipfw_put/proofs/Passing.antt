-- Passes through the rules of a policy that stand besides those of trees.
use Rattle.std.proofs.Common.{◌≡◌, ◌≢◌, ℕ, zero, suc, ◌+◌, ◌<◌, ◌≤◌, Bool, true, false, cond, nat_eq, nat_lt, slice_get, Option, Some, None, List, [], ◌∷◌, ◌++◌, All, arith, refl, sym, ap, ◌∙◌, subst}
use Rattle.std.proofs.lemmas.Bool.{le-ltb, lt-ltb}
use Rattle.std.proofs.lemmas.List.Elements.{All-head, All-tail}
use Rattle.std.specs.List.{list_any}
use Rattle.std.specs.Option.{option_map_or}
use Rattle.fws_net.specs.declared.connection.Kind.{Kind}
use Rattle.fws_net.specs.declared.connection.Kind.TheVariants.{New, Est}
use Rattle.fws_net.specs.declared.connection.Rec.{Rec}
use Rattle.fws_net.specs.declared.outcome.End.{End}
use Rattle.fws_net.specs.declared.packet.Packet.{Packet}
use Rattle.fws_net.specs.declared.site.Site.{Site}
use Rattle.fws_net.specs.declared.transit.Transit.{Transit}
use Rattle.fws_net.specs.Transits.{has_tag, with_tag}
use Rattle.fws_ipfw.specs.declared.config.IpfwConfig.{IpfwConfig}
use Rattle.fws_ipfw.specs.declared.config.IpfwNat.{IpfwNat}
use Rattle.fws_ipfw.specs.declared.config.IpfwRule.{IpfwRule}
use Rattle.fws_ipfw.specs.declared.pass.Pass.{Pass}
use Rattle.fws_ipfw.specs.Walk.{behind, ended, nat_numbered, rules_walk, stepped, translated, translated_by}
use Rattle.fws_ipfw_put.specs.Layout.{allowing, destination_instance, destination_number, destination_rules, inward, lookup_rules, source_instance, source_rules, source_tag}

some_is : {X : Type 0} {x y : X} → Some x ≡ Some y → x ≡ y
some_is h = cc

none_is : {X : Type 0} {x : X} → None ≡ Some x → ⊥
none_is h = cc

-- rules below the number at which the walk goes on are passed over
pub passed_over : (c : IpfwConfig) (site : Site) (p : Packet) (k : Kind) (outward : Bool) (front rest : List IpfwRule) (to : ℕ) (m : Pass) → All (λ (r : IpfwRule). r.number < to) front
    → rules_walk c site p k outward (front ++ rest) to m ≡ rules_walk c site p k outward rest to m
passed_over c site p k outward [] rest to m low = refl
passed_over c site p k outward (r ∷ front) rest to m low =
    rw (lt-ltb r.number to (All-head (λ (r : IpfwRule). r.number < to) r front low))
    (passed_over c site p k outward front rest to m (All-tail (λ (r : IpfwRule). r.number < to) r front low))

-- The look-up

-- packets of connections pass at it
pub known_passes : (c : IpfwConfig) (site : Site) (p : Packet) (r : Rec) (outward : Bool) (rest : List IpfwRule) (m : Pass)
    → rules_walk c site p (Est r) outward (lookup_rules ++ rest) 0 m ≡ Some (ended (Est r) outward m)
known_passes c site p r outward rest m = refl

-- a new packet that arrives gets its tag
pub arriving_tagged : (c : IpfwConfig) (site : Site) (p : Packet) (rest : List IpfwRule) (m : Pass)
    → rules_walk c site p New false (lookup_rules ++ rest) 0 m ≡ rules_walk c site p New false rest 0 (record m { transit = with_tag 1 m.transit })
arriving_tagged c site p rest m = refl

-- with it the packet goes on to the sources as it leaves
pub tagged_leaves : (c : IpfwConfig) (site : Site) (p : Packet) (rest : List IpfwRule) (m : Pass) → has_tag 1 m.transit ≡ true
    → rules_walk c site p New true (lookup_rules ++ rest) 0 m ≡ rules_walk c site p New true rest 60000 m
tagged_leaves c site p rest m tag = rw tag refl

-- and without it to the rules behind
pub untagged_leaves : (c : IpfwConfig) (site : Site) (p : Packet) (rest : List IpfwRule) (m : Pass) → has_tag 1 m.transit ≡ false
    → rules_walk c site p New true (lookup_rules ++ rest) 0 m ≡ rules_walk c site p New true rest 0 m
untagged_leaves c site p rest m tag = rw tag refl

-- Translations

not_below : (n to : ℕ) → to ≤ n → nat_lt n to ≡ false
not_below n to le = le-ltb n to le

same_both : {X : Type 0} (b : Bool) (x : X) → cond b x x ≡ x
same_both true x = refl
same_both false x = refl

-- a new packet isn't changed where its pass ends
pub ended_new : (outward : Bool) (m : Pass) → ended New outward m ≡ m.transit
ended_new true m = same_both m.translated m.transit
ended_new false m = same_both m.translated m.transit

-- behind a translation the pass ends, or the rules behind it end it
after_nat : (ends : Bool) (go : ℕ → Pass → Option Transit) (m : Pass) → go 0 m ≡ Some m.transit → stepped go (behind ends m) ≡ Some m.transit
after_nat true go m h = refl
after_nat false go m h = h

module _ (c : IpfwConfig) (site : Site) (p : Packet) where
  -- Destinations

  dst_allowed : (i : ℕ) (ends : List End) (rest : List IpfwRule) (m : Pass)
      → rules_walk c site p New false (allowing (destination_number i) (inward ∷ []) ∷ destination_rules (i + 1) ends ++ rest) 0 m ≡ Some m.transit
  dst_allowed i ends rest m = rw (not_below (10000 + i) 0 (omega arith)) (ap Some (ended_new false m))

  dst_here : (i : ℕ) (e : End) (ends : List End) (rest : List IpfwRule) (to : ℕ) (m : Pass) → to ≤ 10000 + i
      → rules_walk c site p New false (destination_rules i (e ∷ ends) ++ rest) to m ≡ Some (translated p New false (nat_numbered (destination_instance i) c.nats) m).transit
  dst_here i e ends rest to m low =
      let next = allowing (destination_number i) (inward ∷ []) ∷ destination_rules (i + 1) ends ++ rest in
      let moved = translated p New false (nat_numbered (destination_instance i) c.nats) m in
      rw (not_below (10000 + i) to low) (after_nat site.one_pass (rules_walk c site p New false next) moved (dst_allowed i ends rest moved))

  -- the rules of a destination write it
  pub dst_met : (ends : List End) (i k at : ℕ) (e : End) (rest : List IpfwRule) (m : Pass) → slice_get ends k ≡ Some e → at ≡ i + k
      → rules_walk c site p New false (destination_rules i ends ++ rest) (destination_number at) m
      ≡ Some (translated p New false (nat_numbered (destination_instance at) c.nats) m).transit
  dst_met [] i k at e rest m there same = absurd (none_is there)
  dst_met (x ∷ ends) i zero at e rest m there same =
      let at_is : i ≡ at = omega (arith, same) in
      subst (λ n. rules_walk c site p New false (destination_rules i (x ∷ ends) ++ rest) (destination_number at) m
      ≡ Some (translated p New false (nat_numbered (destination_instance n) c.nats) m).transit) at_is
      (dst_here i x ends rest (destination_number at) m (omega (arith, same)))
  dst_met (x ∷ ends) i (suc k) at e rest m there same =
      rw (lt-ltb (10000 + i) (10000 + at) (omega (arith, same)))
      (dst_met ends (i + 1) k at e rest m there (omega (arith, same)))

  -- Sources

  tags_stay : (nat : Option IpfwNat) (m : Pass) → (translated p New true nat m).transit.tags ≡ m.transit.tags
  tags_stay nat m = by_translated m.translated nat where
    by_translated : (b : Bool) (nat : Option IpfwNat)
        → (cond b m (record { transit = option_map_or (λ n. translated_by p New true n m.transit) nat m.transit; translated = true })).transit.tags ≡ m.transit.tags
    by_translated true nat = refl
    by_translated false None = refl
    by_translated false (Some n) = refl

  -- a packet without the tag of a source leaves with its own
  pub src_none : (d : ℕ) (ends : List End) (j to : ℕ) (m : Pass) → to ≤ 60000 → ((n : ℕ) → j ≤ n → has_tag (source_tag n) m.transit ≡ false)
      → rules_walk c site p New true (source_rules d j ends) to m ≡ Some m.transit
  src_none d [] j to m low none = rw (not_below 60000 to low) (ap Some (ended_new true m))
  src_none d (x ∷ ends) j to m low none =
      rw (not_below 60000 to low, none j (omega arith)) (src_none d ends (j + 1) 0 m (omega arith) (λ n le. none n (omega (arith, le))))

  src_here : (d : ℕ) (e : End) (ends : List End) (j to : ℕ) (m : Pass) → to ≤ 60000 → has_tag (source_tag j) m.transit ≡ true
      → ((n : ℕ) → suc j ≤ n → has_tag (source_tag n) m.transit ≡ false)
      → rules_walk c site p New true (source_rules d j (e ∷ ends)) to m ≡ Some (translated p New true (nat_numbered (source_instance d j) c.nats) m).transit
  src_here d e ends j to m low tag others =
      let moved = translated p New true (nat_numbered (source_instance d j) c.nats) m in
      rw (not_below 60000 to low, tag) (after_nat site.one_pass (rules_walk c site p New true (source_rules d (j + 1) ends)) moved
      (src_none d ends (j + 1) 0 moved (omega arith)
      (λ n le. ap (list_any (nat_eq (source_tag n))) (tags_stay (nat_numbered (source_instance d j) c.nats) m) ∙ others n (omega (arith, le)))))

  -- a packet with the tag of a source gets it
  pub src_met : (d : ℕ) (ends : List End) (j k at to : ℕ) (e : End) (m : Pass) → slice_get ends k ≡ Some e → at ≡ j + k → to ≤ 60000 → has_tag (source_tag at) m.transit ≡ true
      → ((n : ℕ) → n ≢ at → has_tag (source_tag n) m.transit ≡ false)
      → rules_walk c site p New true (source_rules d j ends) to m ≡ Some (translated p New true (nat_numbered (source_instance d at) c.nats) m).transit
  src_met d [] j k at to e m there same low tag others = absurd (none_is there)
  src_met d (x ∷ ends) j zero at to e m there same low tag others =
      let at_is : j ≡ at = omega (arith, same) in
      subst (λ n. rules_walk c site p New true (source_rules d j (x ∷ ends)) to m
      ≡ Some (translated p New true (nat_numbered (source_instance d n) c.nats) m).transit) at_is
      (src_here d x ends j to m low (subst (λ n. has_tag (source_tag n) m.transit ≡ true) (sym at_is) tag)
      (λ n le. others n (λ is. omega (arith, is, le, same))))
  src_met d (x ∷ ends) j (suc k) at to e m there same low tag others =
      rw (not_below 60000 to low, others j (λ is. omega (arith, is, same)))
      (src_met d ends (j + 1) k at 0 e m there (omega (arith, same)) (omega arith) tag others)
