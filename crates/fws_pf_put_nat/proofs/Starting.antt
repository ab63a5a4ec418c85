-- What is known where packets begin.
use Rattle.std.proofs.Common.{◌≡◌, ◌≢◌, ℕ, zero, suc, ◌-◌, ◌<◌, ◌≤◌, Bool, true, false, ◌||◌, Some, List, [], ◌∷◌, length, slice_get, inl, inr, refl, sym, ◌∙◌, ap, subst, arith}
use Rattle.std.proofs.lemmas.Bool.{cases_Bool, cond-true, eq-eqb, eqb-true, false≢true, or_right}
use Rattle.std.proofs.lemmas.Option.{same_Some, slice_get_within}
use Rattle.std.specs.List.{list_any}
use Rattle.std.specs.Prelude.{nat_eq, slice_index}
use Rattle.fws_iv.specs.Ivs.{has}
use Rattle.fws_net.specs.declared.outcome.Outcome.{Outcome}
use Rattle.fws_tree.specs.declared.node.Kid.{Kid}
use Rattle.fws_tree.specs.declared.node.Node.{Node}
use Rattle.fws_tree.specs.declared.node.Node.TheVariants.{Leaf, Cut}
use Rattle.fws_tree.specs.Plain.{cut, Kids, kid_at, branch}
use Rattle.fws_tree.specs.Shared.{IsShared, subtree_of}
use Rattle.fws_tree_seen.specs.Cuts.{kids_of, IsCutNode}
use Rattle.fws_pf_put_nat.specs.Scenes.{below, CutsFrom, Scene}
use Rattle.fws_pf_put_nat.specs.Starts.{IsHostKid, IsStart}
use Rattle.fws_pf_put_nat.proofs.Laws.{NodeLaws}
use Rattle.fws_pf_put_nat.proofs.Points.{at_node, branch_kept, kid_before, kid_cuts, node_cuts}
use Rattle.fws_pf_put_nat.proofs.Turning.{kid_with}

-- what is known of the node where packets begin
pub record IsBegun (s : Scene) : Type 0 where
  pub begins : s.start < length s.nodes
  pub inward : s.outward ≡ false → below s s.start ≡ s.tree
  pub host : s.outward ≡ true → branch 0 (below s s.start) 0 ≡ branch 0 s.tree 0
  pub keeps : s.outward ≡ true → CutsFrom s s.start 1

abbrev IsLeaf : Node → Type 0
IsLeaf (Leaf k) = Unit {0}
IsLeaf (Cut f kids) = ⊥

abbrev field_in : Node → ℕ
field_in (Leaf k) = 0
field_in (Cut f kids) = f

abbrev kids_in : Node → List Kid
kids_in (Leaf k) = []
kids_in (Cut f kids) = kids

leaf_cut : (k f : ℕ) (kids : List Kid) → Some (Leaf k) ≡ Some (Cut f kids) → ⊥
leaf_cut k f kids e = subst IsLeaf (same_Some (Leaf k) (Cut f kids) e) tt

field_same : (f g : ℕ) (kids others : List Kid) → Some (Cut f kids) ≡ Some (Cut g others) → f ≡ g
field_same f g kids others e = ap field_in (same_Some (Cut f kids) (Cut g others) e)

some_kid : (test : Kid → Bool) (kids : List Kid) (i : ℕ) (kid : Kid) → slice_get kids i ≡ Some kid → test kid ≡ true → list_any test kids ≡ true
some_kid test [] i kid e h = absurd (let lt = slice_get_within [] i kid e in omega (arith, lt))
some_kid test (k ∷ kids) zero kid e h = ap (λ b. b || list_any test kids) (ap test (same_Some k kid e) ∙ h)
some_kid test (k ∷ kids) (suc i) kid e h = or_right (test k) (list_any test kids) (some_kid test kids i kid e h)

pub begun_at : (laws : NodeLaws) (s : Scene) → IsShared s.tops s.tree s.leaves s.nodes → IsStart s.nodes s.outward s.start → IsBegun s
begun_at laws s shared start =
    let some = shared.some in
    let low : length s.nodes - 1 < length s.nodes = omega (arith, some) in
    let at_last : s.start ≡ length s.nodes - 1 → below s s.start ≡ s.tree = λ e. ap (λ n. below s n) e ∙ sym shared.last in
    at_node s.nodes (IsBegun s) (length s.nodes - 1) low
    (λ k there. let e : s.start ≡ length s.nodes - 1 = start.leaf k there in record {
      begins = omega (arith, e, low);
      inward = λ n. at_last e;
      host = λ y. ap (λ u. branch 0 u 0) (at_last e);
      keeps = λ y f kids c. absurd (leaf_cut k f kids (sym there ∙ ap (slice_get s.nodes) (sym e) ∙ c));
    })
    (λ f kids there. elim (cases_Bool (nat_eq f 0)) [
      | inr n ↦ (let ne : f ≢ 0 = λ z. false≢true (sym n ∙ eq-eqb f 0 z) in
          let e : s.start ≡ length s.nodes - 1 = start.later f kids there ne in record {
            begins = omega (arith, e, low);
            inward = λ o. at_last e;
            host = λ y. ap (λ u. branch 0 u 0) (at_last e);
            keeps = λ y g others c. let same : f ≡ g = field_same f g kids others (sym there ∙ ap (slice_get s.nodes) (sym e) ∙ c) in some_field f g ne same;
          })
      | inl y ↦ elim (cases_Bool s.outward) [
        | inr o ↦ (let e : s.start ≡ length s.nodes - 1 = start.whole o in record {
          begins = omega (arith, e, low);
          inward = λ o'. at_last e;
          host = λ y'. absurd (false≢true (sym o ∙ y'));
          keeps = λ y'. absurd (false≢true (sym o ∙ y'));
        })
        | inl out ↦ (let z : f ≡ 0 = eqb-true f 0 y in
            let cuts : slice_get s.nodes (length s.nodes - 1) ≡ Some (Cut 0 kids) = there ∙ ap (λ n. Some (Cut n kids)) z in
            let node : IsCutNode s.tops s.leaves s.nodes (length s.nodes - 1) 0 kids = laws.cut s.tops s.tree s.leaves s.nodes (length s.nodes - 1) 0 kids shared cuts in
            let zero_low : 0 ≤ slice_index s.tops 0 = omega arith in
            let r = kid_with s (length s.nodes - 1) 0 kids 0 node zero_low in
            let h : IsHostKid kids s.start = start.host kids out cuts (some_kid (λ kid. has kid.set 0) kids r.place r.kid r.there r.holds) in
            let before : h.kid.node < length s.nodes - 1 = kid_before s (length s.nodes - 1) 0 kids h.place h.kid node h.there in
            let ks : Kids Outcome = kids_of (λ k. subtree_of s.leaves s.nodes k) kids in
            let is = h.node in
            let later : CutsFrom s s.start 1 = subst (λ n. CutsFrom s n 1) h.node (kid_cuts s (length s.nodes - 1) 0 kids h.place h.kid node h.there) in
            let inside : s.start < length s.nodes = omega (arith, before, is) in record {
              begins = inside;
              inward = λ n. absurd (false≢true (sym n ∙ out));
              host = λ y'.
                  branch_kept 0 1 (below s s.start) 0 (omega arith) (node_cuts laws s s.start 1 shared inside later)
                  ∙ sym (ap (λ u. branch 0 u 0) (shared.last ∙ node.tree) ∙ cond-true (nat_eq 0 0) (kid_at ks 0) (cut 0 ks) refl ∙ node.found h.place 0 h.kid h.there h.host ∙ ap (λ n. below s n) h.node);
              keeps = λ y'. later;
            })
      ]
    ])
  where
    some_field : (f g : ℕ) → f ≢ 0 → f ≡ g → 1 ≤ g
    some_field zero g ne e = absurd (ne refl)
    some_field (suc f) g ne e = omega (arith, e)

kids_same : (f g : ℕ) (kids others : List Kid) → Some (Cut f kids) ≡ Some (Cut g others) → kids ≡ others
kids_same f g kids others e = ap kids_in (same_Some (Cut f kids) (Cut g others) e)

-- ---- the node where packets begin

pub start_last : (nodes : List Node) (outward : Bool) (n : ℕ) → outward ≡ false → n ≡ length nodes - 1 → IsStart nodes outward n
start_last nodes outward n inward is = record {
  whole = λ o. is;
  leaf = λ k e. is;
  later = λ f kids e ne. is;
  host = λ kids out. absurd (false≢true (sym inward ∙ out));
}

pub start_leaf : (nodes : List Node) (outward : Bool) (n k : ℕ) → slice_get nodes (length nodes - 1) ≡ Some (Leaf k) → n ≡ length nodes - 1 → IsStart nodes outward n
start_leaf nodes outward n k there is = record {
  whole = λ o. is;
  leaf = λ k e. is;
  later = λ f kids e ne. is;
  host = λ kids out e. absurd (leaf_cut k 0 kids (sym there ∙ e));
}

pub start_cut : (nodes : List Node) (outward : Bool) (n f : ℕ) (kids : List Kid) → outward ≡ true → slice_get nodes (length nodes - 1) ≡ Some (Cut f kids) → (f ≢ 0 → n ≡ length nodes - 1)
    → (f ≡ 0 → list_any (λ kid. has kid.set 0) kids ≡ true → IsHostKid kids n) → IsStart nodes outward n
start_cut nodes outward n f kids out there later host = record {
  whole = λ o. absurd (false≢true (sym o ∙ out));
  leaf = λ k e. absurd (leaf_cut k f kids (sym e ∙ there));
  later = λ g others e ne. later (λ z. ne (sym (field_same f g kids others (sym there ∙ e)) ∙ z));
  host = λ others o e any.
      let same : kids ≡ others = kids_same f 0 kids others (sym there ∙ e) in
      subst (λ l. IsHostKid l n) same (host (field_same f 0 kids others (sym there ∙ e)) (subst (λ l. list_any (λ (kid : Kid). has kid.set 0) l ≡ true) (sym same) any));
}
