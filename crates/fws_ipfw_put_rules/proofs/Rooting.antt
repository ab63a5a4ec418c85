-- What the turns of the root lead to, and sets of kids.
use Rattle.std.proofs.Common.{◌≡◌, ℕ, zero, suc, ◌+◌, ◌-◌, ◌<◌, ◌≤◌, Bool, true, false, cond, Some, None, List, [], ◌∷◌, ◌++◌, length, get_or, slice_get, inl, inr, refl, sym, ◌∙◌, ap, subst, arith}
use Rattle.std.proofs.lemmas.Bool.{cases_Bool, cond-true, cond-false, eqb-true, false≢true, false_from_ne_true, le-leb, not-true, or_parts}
use Rattle.std.proofs.lemmas.List.Elements.{All-from_recursion, All-cons, All-nil}
use Rattle.std.proofs.lemmas.List.Sums.{sum_by-cons, get_or-le-sum_by}
use Rattle.std.proofs.lemmas.Option.{slice_get-get_or, slice_get_within, same_Some}
use Rattle.std.specs.List.{count_by, list_any, AllByRecursion}
use Rattle.std.specs.Prelude.{nat_eq, nat_le, slice_index, slice_index_or, All}
use Rattle.fws_iv.specs.Ivs.{has}
use Rattle.fws_net.specs.declared.packet.Packet.{Packet}
use Rattle.fws_net.specs.declared.site.Site.{Site}
use Rattle.fws_net.specs.Points.{tops_of}
use Rattle.fws_tree.specs.declared.node.Kid.{Kid}
use Rattle.fws_tree.specs.declared.node.Node.{Node}
use Rattle.fws_tree.specs.declared.node.Node.TheVariants.{Cut}
use Rattle.fws_tree.specs.Plain.{Plain, branch, kid_at}
use Rattle.fws_tree.specs.Shared.{IsShared, subtree_of}
use Rattle.fws_tree_seen.specs.declared.field.PacketField.{PacketField}
use Rattle.fws_tree_seen.specs.declared.seen.Seen.{Seen}
use Rattle.fws_tree_seen.specs.Cuts.{kids_of, IsCutNode, PartValues}
use Rattle.fws_tree_seen.specs.Fields.{top_of}
use Rattle.fws_tree_seen.specs.NodeLaws.{CutNodesPartValues}
use Rattle.fws_tree_seen.specs.Reached.{Reaches}
use Rattle.fws_tree_seen.specs.Shown.{seen_field}
use Rattle.fws_tree_seen.specs.SightLaws.{SeenFieldsAgree}
use Rattle.fws_ipfw_put_rules.specs.declared.choice.Choice.{Choice}
use Rattle.fws_ipfw_put_rules.specs.declared.choice.Origin.TheVariants.{Arriving, Host}
use Rattle.fws_ipfw_put_rules.specs.declared.choice.Section.{Section}
use Rattle.fws_ipfw_put_rules.specs.declared.turn.Turn.{Turn}
use Rattle.fws_ipfw_put_rules.specs.Blocks.{is_printed_turn, AreRootTurns, IsPlanned}
use Rattle.fws_ipfw_put_rules.specs.Lists.{is_of}
use Rattle.fws_ipfw_put_rules.specs.Literals.{holds_or_none, is_printed_at}
use Rattle.fws_ipfw_put_rules.specs.Pieces.{IsProper}
use Rattle.fws_ipfw_put_rules.specs.Turns.{last_turn, AreEntries, AreKidTurns, AreTurns, Leads}
use Rattle.fws_ipfw_put_rules.proofs.Hitting.{count_any}
use Rattle.fws_ipfw_put_rules.proofs.Leading.{kids_led, last_led, whole, SomeKid}
use Rattle.fws_ipfw_put_rules.proofs.Rooms.{each_append, each_split, kid_turns}

-- ---- sets of kids

counted_in : (p : Kid → Bool) (kids : List Kid) (i : ℕ) (d : Kid) → i < length kids → p (get_or kids i d) ≡ true → 1 ≤ count_by p kids
counted_in p kids i d lt e =
    let le = get_or-le-sum_by (λ x. cond (p x) 1 0) kids i d lt in
    let one : ◌≡◌ {A = ℕ} (cond (p (get_or kids i d)) 1 0) 1 = ap (λ b. cond b 1 0) e in omega (arith, le, one)

counted_twice : (p : Kid → Bool) (x : Kid) (kids : List Kid) (i : ℕ) (d : Kid) → i < length kids → p x ≡ true → p (get_or kids i d) ≡ true → 2 ≤ count_by p (x ∷ kids)
counted_twice p x kids i d lt e f =
    let more = counted_in p kids i d lt f in
    let s = sum_by-cons (λ x. cond (p x) 1 0) x kids in
    let one : ◌≡◌ {A = ℕ} (cond (p x) 1 0) 1 = ap (λ b. cond b 1 0) e in omega (arith, more, s, one)

at_most_one : (b : Bool) → cond b 1 0 ≤ 1
at_most_one true = omega arith
at_most_one false = omega arith

-- of the values of another kid each kid lacks all
lacks_other : (top : ℕ) (kids : List Kid) → PartValues top kids → 2 ≤ length kids → ((i : ℕ) (kid : Kid) → slice_get kids i ≡ Some kid → (v : ℕ) × (has kid.set v ≡ true))
    → ((i v : ℕ) (kid : Kid) → slice_get kids i ≡ Some kid → has kid.set v ≡ true → v ≤ top)
    → (k : ℕ) (d : Kid) → k < length kids → (v : ℕ) × (v ≤ top) × (has (slice_index_or kids k d).set v ≡ false)
lacks_other top [] parted many filled within k d lt = absurd (omega arith)
lacks_other top (x ∷ kids) parted many filled within zero d lt =
    let other = slice_index_or kids 0 d in
    let there : slice_get kids 0 ≡ Some other = slice_get-get_or kids 0 d (omega arith) in
    let v = filled 1 other there in (
      v.0,
      within 1 v.0 other there v.1,
      false_from_ne_true (has x.set v.0) (λ y.
          let twice = counted_twice (λ kid. has kid.set v.0) x kids 0 d (omega arith) y v.1 in
          let n = parted v.0 in
          let most = at_most_one (nat_le v.0 top) in absurd (omega (arith, twice, n, most))),
    )
lacks_other top (x ∷ kids) parted many filled within (suc k) d lt =
    let v = filled 0 x refl in (
      v.0,
      within 0 v.0 x refl v.1,
      false_from_ne_true (has (slice_index_or kids k d).set v.0) (λ y.
          let twice = counted_twice (λ kid. has kid.set v.0) x kids k d (omega arith) v.1 y in
          let n = parted v.0 in
          let most = at_most_one (nat_le v.0 top) in absurd (omega (arith, twice, n, most))),
    )

-- the sets of a cut are proper
pub proper_kids : (agree : SeenFieldsAgree) (site : Site) (tops : List ℕ) (seen : Seen) (leaves : List Choice) (nodes : List Node) (at f : ℕ) (kids : List Kid) → tops ≡ tops_of site
    → IsCutNode tops leaves nodes at f kids → (field : PacketField) → seen_field seen f ≡ Some field → All (λ kid. IsProper field kid.set) kids
proper_kids agree site tops seen leaves nodes at f kids is node field e = λ k d lt.
    let top : slice_index tops f ≡ top_of field = ap (λ l. slice_index l f) is ∙ (agree seen f field e).top site in
    let kid = slice_index_or kids k d in
    let there : slice_get kids k ≡ Some kid = slice_get-get_or kids k d lt in
    let lacks = lacks_other (slice_index tops f) kids node.parted node.many node.filled node.within k d lt in
    record {
      within = λ v h. subst (λ n. v ≤ n) top (node.within k v kid there h);
      some = node.filled k kid there;
      lacks = (lacks.0, subst (λ n. lacks.0 ≤ n) top lacks.1, lacks.2);
    }

-- ---- kids by their entry

none_counted : {X : Type 0} (p : X → Bool) (xs : List X) → list_any p xs ≡ false → count_by p xs ≡ 0
none_counted p [] e = refl
none_counted p (x ∷ xs) e =
    let parts = or_parts (p x) (list_any p xs) e in
    let a = sum_by-cons (λ x. cond (p x) 1 0) x xs in
    let b = ap (λ x. cond x 1 0) parts.0 in
    let c = none_counted p xs parts.1 in
    a ∙ ap (λ n. n + count_by p xs) b ∙ ap (λ n. 0 + n) c

-- what no other kid has is had by the one that is left
left_over : {X : Type 0} (p : X → Bool) (front back : List X) (other : X) → count_by p (front ++ other ∷ back) ≡ 1 → list_any p (front ++ back) ≡ false → p other ≡ true
left_over p [] back other n e = elim (cases_Bool (p other)) [
  | inl y ↦ y
  | inr z ↦ (let a = sum_by-cons (λ x. cond (p x) 1 0) other back ∙ ap (λ n. n + count_by p back) (ap (λ x. cond x 1 0) z) ∙ ap (λ n. 0 + n) (none_counted p back e) in
      let bad : ◌≡◌ {A = ℕ} 0 1 = sym a ∙ n in absurd (omega (arith, bad)))
]
left_over p (x ∷ front) back other n e =
    let parts = or_parts (p x) (list_any p (front ++ back)) e in
    let a = sum_by-cons (λ x. cond (p x) 1 0) x (front ++ other ∷ back) ∙ ap (λ n. n + count_by p (front ++ other ∷ back)) (ap (λ x. cond x 1 0) parts.0) in
    let z : 0 + count_by p (front ++ other ∷ back) ≡ 1 = sym a ∙ n in
    left_over p front back other (omega (arith, z)) parts.1

some_more : (P : Kid → Type 0) (front back : List Kid) (other : Kid) → SomeKid P (front ++ back) → SomeKid P (front ++ other ∷ back)
some_more P [] back other h = inr h
some_more P (k ∷ front) back other (inl h) = inl h
some_more P (k ∷ front) back other (inr h) = inr (some_more P front back other h)

some_other : (P : Kid → Type 0) (front back : List Kid) (other : Kid) → P other → SomeKid P (front ++ other ∷ back)
some_other P [] back other h = inl h
some_other P (k ∷ front) back other h = inr (some_other P front back other h)

-- what some kid that has the value reaches is reached where that value leads
some_found : (seen : Seen) (q : Packet) (e : ℕ) (w : Choice) (tree : ℕ → Plain Choice) (u : Plain Choice) (kids : List Kid)
    → ((i : ℕ) (kid : Kid) → slice_get kids i ≡ Some kid → has kid.set e ≡ true → u ≡ tree kid.node)
    → SomeKid (λ kid. (has kid.set e ≡ true) × Reaches seen q (tree kid.node) w) kids → Reaches seen q u w
some_found seen q e w tree u [] found h = absurd h
some_found seen q e w tree u (k ∷ kids) found (inl a) = subst (λ u. Reaches seen q u w) (sym (found 0 k refl a.0)) a.1
some_found seen q e w tree u (k ∷ kids) found (inr b) = some_found seen q e w tree u kids (λ i kid at h. found (suc i) kid at h) b

-- the tree that is left at an entry
left_at : (tops : List ℕ) (t : Plain Choice) (leaves : List Choice) (nodes : List Node) (kids : List Kid) → IsShared tops t leaves nodes → IsCutNode tops leaves nodes (length nodes - 1) 0 kids
    → (e : ℕ) → branch 0 t e ≡ kid_at (kids_of (λ n. subtree_of leaves nodes n) kids) e
left_at tops t leaves nodes kids shared node e = ap (λ u. branch 0 u e) (shared.last ∙ node.tree)

-- ---- the host's own

pub host_root : (law : CutNodesPartValues Choice) (site : Site) (tops : List ℕ) (section : Section) (t : Plain Choice) (leaves : List Choice) (nodes : List Node) (kids : List Kid) (at : ℕ) (kid : Kid) (turns : List Turn)
    → IsPlanned site tops t section leaves nodes → section.origin ≡ Host → slice_get nodes (length nodes - 1) ≡ Some (Cut 0 kids) → slice_get kids at ≡ Some kid
    → (list_any (λ kid. has kid.set 0) kids ≡ true → has kid.set 0 ≡ true) → turns ≡ last_turn kid → AreRootTurns site tops section t leaves nodes turns
host_root law site tops section t leaves nodes kids at kid turns planned origin root there holds is =
    let tree : ℕ → Plain Choice = λ n. subtree_of leaves nodes n in
    let node = law tops t leaves nodes (length nodes - 1) 0 kids planned.shared root in
    let before = All-from_recursion (λ (k : Kid). k.node < length nodes - 1) kids node.before at kid (slice_get_within kids at kid there) in
    let low : kid.node < length nodes = (let b = subst (λ (k : Kid). k.node < length nodes - 1) (same_Some _ kid (sym (slice_get-get_or kids at kid (slice_get_within kids at kid there)) ∙ there)) before in omega (arith, b)) in
    let zero-has : has kid.set 0 ≡ true = holds (count_any (λ kid. has kid.set 0) kids true (node.parted 0 ∙ cond-true (nat_le 0 (slice_index tops 0)) 1 0 (le-leb 0 (slice_index tops 0) (omega arith)))) in
    record {
      known = subst (λ l. All (λ turn. turn.node < length nodes) l) (sym is) (All-cons (λ turn. turn.node < length nodes) (record { lit = None; node = kid.node }) [] low (All-nil (λ turn. turn.node < length nodes)));
      printed = subst (λ l. All (λ turn. is_printed_turn site turn ≡ true) l) (sym is) (All-cons (λ turn. is_printed_turn site turn ≡ true) (record { lit = None; node = kid.node }) [] refl (All-nil (λ turn. is_printed_turn site turn ≡ true)));
      whole = λ v. ap (λ l. list_any (λ turn. holds_or_none v turn.lit) l) is;
      leads = λ v w fine h.
          let e = v.packet.entry in
          let none : e ≡ 0 = eqb-true e 0 (sym (ap (λ o. is_of o v.packet) origin) ∙ fine.origin) in
          let to : branch 0 t e ≡ tree kid.node = ap (branch 0 t) none ∙ left_at tops t leaves nodes kids planned.shared node 0 ∙ node.found at 0 kid there zero-has in
          subst (λ u. Reaches section.seen v.packet u w) (sym to) (last_led section.seen tree v w kid (subst (λ l. Leads section.seen tree v l w) is h));
    }

-- ---- what arrives

pub arriving_root : (law : CutNodesPartValues Choice) (site : Site) (tops : List ℕ) (section : Section) (t : Plain Choice) (leaves : List Choice) (nodes : List Node) (kids : List Kid) (turns : List Turn)
    → IsPlanned site tops t section leaves nodes → section.origin ≡ Arriving → slice_get nodes (length nodes - 1) ≡ Some (Cut 0 kids)
    → AreTurns (AreKidTurns (AreEntries (length site.faces + 1))) kids turns → AreRootTurns site tops section t leaves nodes turns
arriving_root law site tops section t leaves nodes kids turns planned origin root made =
    let tree : ℕ → Plain Choice = λ n. subtree_of leaves nodes n in
    let top : ℕ = length site.faces + 1 in
    let Is = AreEntries top in
    let node = law tops t leaves nodes (length nodes - 1) 0 kids planned.shared root in
    let Q : Kid → Type 0 = λ kid. kid.node < length nodes - 1 in
    let P : Turn → Type 0 = λ turn. (turn.node < length nodes) × (is_printed_turn site turn ≡ true) in
    let parts = each_split Q made.front made.back made.other (subst (λ l. AllByRecursion Q l) made.split node.before) in
    let others = parts.1 in
    let all : All P turns = All-from_recursion P turns (subst (λ l. AllByRecursion P l) (sym made.all)
    (each_append P made.tests (last_turn made.other)
    (kid_turns P Q (is_printed_at site 4) Is (λ set lits is. is.printed site refl) (λ kid b lit printed. (omega (arith, b), printed)) (made.front ++ made.back) made.tests parts.0 made.sorted)
    ((omega (arith, others), refl), tt))) in
    record {
      known = λ k d lt. (all k d lt).0;
      printed = λ k d lt. (all k d lt).1;
      whole = whole (AreKidTurns Is) kids turns made;
      leads = λ v w fine h.
          let e = v.packet.entry in
          let K = kids_of tree kids in
          let some : nat_eq e 0 ≡ false = not-true (nat_eq e 0) (sym (ap (λ o. is_of o v.packet) origin) ∙ fine.origin) in
          let shown : v.recv ≡ Some e = fine.shown ∙ cond-false (nat_eq e 0) None (Some e) some in
          let most : e ≤ top = subst (λ l. e ≤ slice_index l 0) planned.tops_are fine.entry in
          let parted : count_by (λ kid. has kid.set e) (made.front ++ made.other ∷ made.back) ≡ 1 =
          subst (λ l. count_by (λ kid. has kid.set e) l ≡ 1) made.split (node.parted e ∙ cond-true (nat_le e (slice_index tops 0)) 1 0 (le-leb e (slice_index tops 0) fine.entry)) in
          let S : Kid → Type 0 = λ kid. (has kid.set e ≡ true) × Reaches section.seen v.packet (tree kid.node) w in
          let found : SomeKid S (made.front ++ made.other ∷ made.back) = elim (kids_led Is (λ set. has set e) section.seen tree v w (λ set lits is. is.hit v e shown (positive e some) most)
          (made.front ++ made.back) made.tests (last_turn made.other) made.sorted (subst (λ l. Leads section.seen tree v l w) made.all h)) [
            | inl a ↦ some_more S made.front made.back made.other a
            | inr b ↦ some_other S made.front made.back made.other (left_over (λ kid. has kid.set e) made.front made.back made.other parted b.0, last_led section.seen tree v w made.other b.1)
          ] in
          subst (λ u. Reaches section.seen v.packet u w) (sym (left_at tops t leaves nodes kids planned.shared node e))
          (some_found section.seen v.packet e w tree (kid_at K e) kids (λ i kid there h. node.found i e kid there h) (subst (λ l. SomeKid S l) (sym made.split) found));
    }
  where
    positive : (e : ℕ) → nat_eq e 0 ≡ false → 1 ≤ e
    positive zero h = absurd (false≢true (sym h))
    positive (suc e) h = omega arith
