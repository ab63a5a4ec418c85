-- To which earlier nodes packets are led.
use Rattle.std.proofs.Common.{◌≡◌, ◌⊎◌, ℕ, zero, suc, ◌+◌, ◌<◌, ◌≤◌, Bool, true, false, cond, Option, Some, None, List, [], ◌∷◌, length, get_or, slice_get, inl, inr, refl, sym, ◌∙◌, ap, subst, arith}
use Rattle.std.proofs.lemmas.Bool.{and_from, cases_Bool, cond-true, cond-false, eqb-true, false≢true, le-leb}
use Rattle.std.proofs.lemmas.List.Sums.{sum_by-cons}
use Rattle.std.proofs.lemmas.Option.{none-some, same_Some, slice_get-get_or}
use Rattle.std.specs.List.{count_by, AllByRecursion}
use Rattle.std.specs.Option.{option_map}
use Rattle.std.specs.Prelude.{nat_eq, nat_le, slice_index, slice_index_or}
use Rattle.fws_iv.specs.Ivs.{has}
use Rattle.fws_net.specs.declared.outcome.Outcome.{Outcome}
use Rattle.fws_net.specs.declared.packet.Packet.{Packet}
use Rattle.fws_net.specs.declared.site.Site.{Site}
use Rattle.fws_net.specs.Points.{tops_of}
use Rattle.fws_tree.specs.declared.node.Kid.{Kid}
use Rattle.fws_tree.specs.declared.node.Node.{Node}
use Rattle.fws_tree.specs.declared.node.Node.TheVariants.{Leaf, Cut}
use Rattle.fws_tree.specs.Plain.{Plain, branch, kid_at}
use Rattle.fws_tree.specs.Shared.{IsShared, subtree_of}
use Rattle.fws_tree_seen.specs.declared.field.PacketField.{PacketField}
use Rattle.fws_tree_seen.specs.declared.seen.Seen.TheVariants.{Entered}
use Rattle.fws_tree_seen.specs.Cuts.{kids_of, IsCutNode, PartValues}
use Rattle.fws_tree_seen.specs.Fields.{suits}
use Rattle.fws_tree_seen.specs.NodeLaws.{CutNodesPartValues, LeafNodesAreLeaves}
use Rattle.fws_tree_seen.specs.Reached.{IsOpen, Reaches, ReachesKid}
use Rattle.fws_tree_seen.specs.Shown.{seen_field, value_of}
use Rattle.fws_tree_seen.specs.SightLaws.{Agrees, SeenFieldsAgree, UnseenFieldsAreOpen}
use Rattle.fws_pf_put_filter.specs.declared.tested.Tested.{Tested}
use Rattle.fws_pf_put_filter.specs.declared.tested.Tested.TheVariants.{Entry, Field}
use Rattle.fws_pf_put_filter.specs.Blocks.{IsFine, KeepsEntry, LeadsTo}
use Rattle.fws_pf_put_filter.specs.Conds.{hits_set, tested_at}

-- laws of what rules see, and of nodes
pub record Laws : Type 0 where
  pub agree : SeenFieldsAgree
  pub unseen : UnseenFieldsAreOpen
  pub cuts : CutNodesPartValues Outcome
  pub leaves : LeafNodesAreLeaves Outcome

-- ---- kids

pub kid_of_all : (P : Kid → Type 0) (kids : List Kid) → AllByRecursion P kids → (i : ℕ) (kid : Kid) → slice_get kids i ≡ Some kid → P kid
kid_of_all P [] h zero kid e = absurd (none-some kid e)
kid_of_all P [] h (suc i) kid e = absurd (none-some kid e)
kid_of_all P (k ∷ kids) h zero kid e = subst P (same_Some k kid e) h.0
kid_of_all P (k ∷ kids) h (suc i) kid e = kid_of_all P kids h.1 i kid e

-- among counted kids there is one
counted : (p : Kid → Bool) (kids : List Kid) → count_by p kids ≡ 1 → (i : ℕ) × (kid : Kid) × (slice_get kids i ≡ Some kid) × (p kid ≡ true)
counted p [] e = absurd (omega (arith, e))
counted p (k ∷ kids) e = elim (cases_Bool (p k)) [
  | inl y ↦ (0, k, refl, y)
  | inr z ↦ (let s = sum_by-cons (λ x. cond (p x) 1 0) k kids in
      let n : 0 + count_by p kids ≡ 1 = ap (λ m. m + count_by p kids) (sym (ap (λ b. cond b 1 0) z)) ∙ sym s ∙ e in
      let r = counted p kids (omega (arith, n)) in (suc r.0, r.1, r.2, r.3))
]

-- a value up to the top is some kid's
pub some_has : (top v : ℕ) (kids : List Kid) → PartValues top kids → v ≤ top → (i : ℕ) × (kid : Kid) × (slice_get kids i ≡ Some kid) × (has kid.set v ≡ true)
some_has top v kids parted le = counted (λ kid. has kid.set v) kids (parted v ∙ cond-true (nat_le v top) 1 0 (le-leb v top le))

-- an open kid is reached
kid_reached : (p : Packet) (f : ℕ) (tree : ℕ → Plain Outcome) (w : Outcome) (kids : List Kid) (i : ℕ) (kid : Kid) → slice_get kids i ≡ Some kid
    → IsOpen Entered p f kid.set → Reaches Entered p (tree kid.node) w → ReachesKid Entered p f (kids_of tree kids) w
kid_reached p f tree w [] zero kid e is h = absurd (none-some kid e)
kid_reached p f tree w [] (suc i) kid e is h = absurd (none-some kid e)
kid_reached p f tree w (k ∷ kids) zero kid e is h =
    let same = same_Some k kid e in inl (subst (λ (x : Kid). IsOpen Entered p f x.set) (sym same) is, subst (λ (x : Kid). Reaches Entered p (tree x.node) w) (sym same) h)
kid_reached p f tree w (k ∷ kids) (suc i) kid e is h = inr (kid_reached p f tree w kids i kid e is h)

-- ---- nodes

-- the tree of a node that doesn't cut the entry is left as it is at an entry
pub branch_keeps : (laws : Laws) (tops : List ℕ) (t : Plain Outcome) (leaves : List Outcome) (nodes : List Node) (k e : ℕ) → IsShared tops t leaves nodes → k < length nodes → KeepsEntry nodes k
    → branch 0 (subtree_of leaves nodes k) e ≡ subtree_of leaves nodes k
branch_keeps laws tops t leaves nodes k e shared inside keeps = by_node (get_or nodes k (Leaf 0)) (slice_get-get_or nodes k (Leaf 0) inside)
  where
    by_node : (node : Node) → slice_get nodes k ≡ Some node → branch 0 (subtree_of leaves nodes k) e ≡ subtree_of leaves nodes k
    by_node (Leaf i) there =
        let leaf = laws.leaves tops t leaves nodes k i shared there in
        subst (λ u. branch 0 u e ≡ u) (sym leaf.2) refl
    by_node (Cut f kids) there =
        let node = laws.cuts tops t leaves nodes k f kids shared there in
        let ks = kids_of (λ n. subtree_of leaves nodes n) kids in
        subst (λ u. branch 0 u e ≡ u) (sym node.tree)
        (elim (cases_Bool (nat_eq f 0)) [
          | inl y ↦ absurd (keeps kids (there ∙ ap (λ g. Some (Cut g kids)) (eqb-true f 0 y)))
          | inr z ↦ cond-false (nat_eq f 0) (kid_at ks e) _ z
        ])

-- the kids of a cut don't cut the entry
pub kid_keeps : (tops : List ℕ) (leaves : List Outcome) (nodes : List Node) (n f : ℕ) (kids : List Kid) → IsCutNode tops leaves nodes n f kids → (i : ℕ) (kid : Kid) → slice_get kids i ≡ Some kid → KeepsEntry nodes kid.node
kid_keeps tops leaves nodes n f kids node i kid there = λ others cut. let rises = node.rising i 0 kid others there cut in absurd (omega (arith, rises))

pub kid_before : (tops : List ℕ) (leaves : List Outcome) (nodes : List Node) (n f : ℕ) (kids : List Kid) → IsCutNode tops leaves nodes n f kids → (i : ℕ) (kid : Kid) → slice_get kids i ≡ Some kid → kid.node < n
kid_before tops leaves nodes n f kids node i kid there = kid_of_all (λ kid. kid.node < n) kids node.before i kid there

-- a packet is led to a kid that is open to it
open_led : (laws : Laws) (tops : List ℕ) (t : Plain Outcome) (leaves : List Outcome) (nodes : List Node) (n f : ℕ) (kids : List Kid) (p : Packet) → IsShared tops t leaves nodes → n < length nodes
    → IsCutNode tops leaves nodes n f kids → nat_eq f 0 ≡ false → (i : ℕ) (kid : Kid) → slice_get kids i ≡ Some kid → IsOpen Entered p f kid.set → LeadsTo leaves nodes n p kid.node
open_led laws tops t leaves nodes n f kids p shared inside node other i kid there is = record {
  before = lt;
  keeps = keeps;
  reached = λ w h.
      let tree : ℕ → Plain Outcome = λ k. subtree_of leaves nodes k in
      let at : Reaches Entered p (subtree_of leaves nodes kid.node) w =
      subst (λ u. Reaches Entered p u w) (branch_keeps laws tops t leaves nodes kid.node p.entry shared (omega (arith, lt, inside)) keeps) h in
      subst (λ u. Reaches Entered p (branch 0 u p.entry) w) (sym node.tree)
      (subst (λ u. Reaches Entered p u w) (sym (cond-false (nat_eq f 0) (kid_at (kids_of tree kids) p.entry) _ other))
      (kid_reached p f tree w kids i kid there is at));
}
  where
    lt : kid.node < n
    lt = kid_before tops leaves nodes n f kids node i kid there

    keeps : KeepsEntry nodes kid.node
    keeps = kid_keeps tops leaves nodes n f kids node i kid there

-- and at a cut of the entry to the kid that has its entry
entry_led : (laws : Laws) (tops : List ℕ) (t : Plain Outcome) (leaves : List Outcome) (nodes : List Node) (n : ℕ) (kids : List Kid) (p : Packet) → IsShared tops t leaves nodes → n < length nodes
    → IsCutNode tops leaves nodes n 0 kids → (i : ℕ) (kid : Kid) → slice_get kids i ≡ Some kid → has kid.set p.entry ≡ true → LeadsTo leaves nodes n p kid.node
entry_led laws tops t leaves nodes n kids p shared inside node i kid there has-it = record {
  before = lt;
  keeps = keeps;
  reached = λ w h.
      let at : Reaches Entered p (subtree_of leaves nodes kid.node) w =
      subst (λ u. Reaches Entered p u w) (branch_keeps laws tops t leaves nodes kid.node p.entry shared (omega (arith, lt, inside)) keeps) h in
      subst (λ u. Reaches Entered p (branch 0 u p.entry) w) (sym node.tree)
      (subst (λ u. Reaches Entered p u w) (sym (node.found i p.entry kid there has-it)) at);
}
  where
    lt : kid.node < n
    lt = kid_before tops leaves nodes n 0 kids node i kid there

    keeps : KeepsEntry nodes kid.node
    keeps = kid_keeps tops leaves nodes n 0 kids node i kid there

-- ---- what is tested at a cut

-- the packet hits some kid, or is led to each
pub record AreWays (leaves : List Outcome) (nodes : List Node) (n : ℕ) (p : Packet) (tested : Tested) (kids : List Kid) : Type 0 where
  pub hit : (i : ℕ) (kid : Kid) → slice_get kids i ≡ Some kid → hits_set tested kid.set p ≡ true → LeadsTo leaves nodes n p kid.node
  pub some : ((i : ℕ) × (kid : Kid) × (slice_get kids i ≡ Some kid) × (hits_set tested kid.set p ≡ true)) ⊎ ((i : ℕ) (kid : Kid) → slice_get kids i ≡ Some kid → LeadsTo leaves nodes n p kid.node)

-- the ways at a cut, where something is tested; else the packet is led to each kid
abbrev pub CutWays : List Outcome → List Node → ℕ → Packet → List Kid → Option Tested → Type 0
CutWays leaves nodes n p kids None = (i : ℕ) (kid : Kid) → slice_get kids i ≡ Some kid → LeadsTo leaves nodes n p kid.node
CutWays leaves nodes n p kids (Some tested) = AreWays leaves nodes n p tested kids

entry_ways : (laws : Laws) (site : Site) (tops : List ℕ) (t : Plain Outcome) (leaves : List Outcome) (nodes : List Node) (n : ℕ) (kids : List Kid) (outward : Bool) (p : Packet) → tops ≡ tops_of site
    → IsShared tops t leaves nodes → n < length nodes → slice_get nodes n ≡ Some (Cut 0 kids) → IsCutNode tops leaves nodes n 0 kids → IsFine tops nodes n outward p
    → AreWays leaves nodes n p (Entry (length site.faces + 1)) kids
entry_ways laws site tops t leaves nodes n kids outward p is shared inside there node fine = record {
  hit = λ i kid at hit. entry_led laws tops t leaves nodes n kids p shared inside node i kid at hit;
  some = inl (some_has (slice_index tops 0) p.entry kids node.parted (fine.comes kids there).2);
}

field_ways : (laws : Laws) (site : Site) (tops : List ℕ) (t : Plain Outcome) (leaves : List Outcome) (nodes : List Node) (n f : ℕ) (kids : List Kid) (outward : Bool) (p : Packet) (field : PacketField) → tops ≡ tops_of site
    → IsShared tops t leaves nodes → n < length nodes → IsCutNode tops leaves nodes n f kids → nat_eq f 0 ≡ false → seen_field Entered f ≡ Some field → IsFine tops nodes n outward p
    → AreWays leaves nodes n p (Field field) kids
field_ways laws site tops t leaves nodes n f kids outward p field is shared inside node other e fine =
    let agrees : Agrees Entered f field = laws.agree Entered f field e in
    record {
      hit = λ i kid at hit. open_led laws tops t leaves nodes n f kids p shared inside node other i kid at (agrees.open_hit p kid.set hit);
      some = elim (cases_Bool (suits field p.proto)) [
        | inl y ↦ (let le = fine.topped f (value_of field p) (agrees.protocols p.proto ∙ y) (agrees.value p) in
            let r = some_has (slice_index tops f) (value_of field p) kids node.parted le in
            inl (r.0, r.1, r.2, and_from (suits field p.proto) (has r.1.set (value_of field p)) y r.3))
        | inr z ↦ inr (λ i kid at.
            open_led laws tops t leaves nodes n f kids p shared inside node other i kid at (λ v has-it shown. absurd (false≢true (sym z ∙ sym (agrees.protocols p.proto) ∙ has-it))))
      ];
    }

pub cut_ways : (laws : Laws) (site : Site) (tops : List ℕ) (t : Plain Outcome) (leaves : List Outcome) (nodes : List Node) (n f : ℕ) (kids : List Kid) (outward : Bool) (p : Packet) → tops ≡ tops_of site
    → IsShared tops t leaves nodes → n < length nodes → slice_get nodes n ≡ Some (Cut f kids) → IsFine tops nodes n outward p → CutWays leaves nodes n p kids (tested_at site f)
cut_ways laws site tops t leaves nodes n f kids outward p is shared inside there fine =
    elim (cases_Bool (nat_eq f 0)) [
      | inl y ↦ (let zero-is : f ≡ 0 = eqb-true f 0 y in
          let there' : slice_get nodes n ≡ Some (Cut 0 kids) = there ∙ ap (λ g. Some (Cut g kids)) zero-is in
          subst (CutWays leaves nodes n p kids) (sym (cond-true (nat_eq f 0) (Some (Entry (length site.faces + 1))) (option_map Field (seen_field Entered f)) y))
          (entry_ways laws site tops t leaves nodes n kids outward p is shared inside there' (laws.cuts tops t leaves nodes n 0 kids shared there') fine))
      | inr z ↦ subst (CutWays leaves nodes n p kids) (sym (cond-false (nat_eq f 0) (Some (Entry (length site.faces + 1))) (option_map Field (seen_field Entered f)) z))
          (by_field (seen_field Entered f) refl z)
    ]
  where
    by_field : (o : Option PacketField) → seen_field Entered f ≡ o → nat_eq f 0 ≡ false → CutWays leaves nodes n p kids (option_map Field o)
    by_field None e z = λ i kid at.
        open_led laws tops t leaves nodes n f kids p shared inside (laws.cuts tops t leaves nodes n f kids shared there) z i kid at (laws.unseen Entered f p kid.set e)
    by_field (Some field) e z = field_ways laws site tops t leaves nodes n f kids outward p field is shared inside (laws.cuts tops t leaves nodes n f kids shared there) z e fine

-- a packet is led to some kid
pub some_way : (laws : Laws) (site : Site) (tops : List ℕ) (t : Plain Outcome) (leaves : List Outcome) (nodes : List Node) (n f : ℕ) (kids : List Kid) (outward : Bool) (p : Packet) → tops ≡ tops_of site
    → IsShared tops t leaves nodes → n < length nodes → slice_get nodes n ≡ Some (Cut f kids) → IsFine tops nodes n outward p
    → (i : ℕ) × (kid : Kid) × (slice_get kids i ≡ Some kid) × LeadsTo leaves nodes n p kid.node
some_way laws site tops t leaves nodes n f kids outward p is shared inside there fine =
    by_tested (tested_at site f) (cut_ways laws site tops t leaves nodes n f kids outward p is shared inside there fine)
  where
    first : ((i : ℕ) (kid : Kid) → slice_get kids i ≡ Some kid → LeadsTo leaves nodes n p kid.node) → (i : ℕ) × (kid : Kid) × (slice_get kids i ≡ Some kid) × LeadsTo leaves nodes n p kid.node
    first all =
        let many = (laws.cuts tops t leaves nodes n f kids shared there).many in
        let kid = slice_index_or kids 0 (record { set = []; node = 0 }) in
        let at : slice_get kids 0 ≡ Some kid = slice_get-get_or kids 0 (record { set = []; node = 0 }) (omega (arith, many)) in
        (0, kid, at, all 0 kid at)

    by_tested : (o : Option Tested) → CutWays leaves nodes n p kids o → (i : ℕ) × (kid : Kid) × (slice_get kids i ≡ Some kid) × LeadsTo leaves nodes n p kid.node
    by_tested None all = first all
    by_tested (Some tested) ways = elim ways.some [
      | inl r ↦ (r.0, r.1, r.2, ways.hit r.0 r.1 r.2 r.3)
      | inr all ↦ first all
    ]
