-- Cells as reduced nodes.
use Rattle.std.proofs.Common.{◌≡◌, cond, ℕ, zero, suc, ◌+◌, ◌-◌, ◌<◌, ◌≤◌, List, [], ◌∷◌, ◌++◌, length, get_or, drop, take, nat_le, nat_eq, inl, inr, Some, sym, ◌∙◌, ap, subst, arith, All, add-one}
use Rattle.std.proofs.lemmas.Bool.{cases_Bool, cond-true, cond-false, le-leb, lt-leb, and_parts, eqb-true}
use Rattle.std.proofs.lemmas.List.{drop_more, drop_all, take_more, take_all, append-nil}
use Rattle.std.proofs.lemmas.List.Elements.{All-push}
use Rattle.std.specs.HashMap.{get, Updates}
use Rattle.fws_tree.specs.declared.store.Step.{Step}
use Rattle.fws_tree.specs.declared.store.Cell.{Cell}
use Rattle.fws_tree.specs.declared.node.Node.{Node}
use Rattle.fws_tree.specs.declared.join.Piece.{Piece}
use Rattle.fws_tree.specs.declared.memo.Memo.{Memo}
use Rattle.fws_tree.specs.Building.{AreInRow, end_of, Extends}
use Rattle.fws_tree.specs.Held.{child_at, held_at, pair_eq}
use Rattle.fws_tree.specs.Nodes.{tree_of}
use Rattle.fws_tree.specs.Plain.{Plain, leaf, branch, IsReducedFrom, value_from}
use Rattle.fws_box.specs.Sides.{IsWithin}
use Rattle.fws_tree.specs.Shown.{IsShown, AreShown, IsPieced}
use Rattle.fws_tree.specs.declared.store.Cell.TheVariants.{Leaf}
use Rattle.fws_tree.specs.Held.{AreOrderedFrom}
use Rattle.fws_tree.proofs.Cells.{held_cell}
use Rattle.std.proofs.Common.{slice_get, ◌⊎◌}
use Rattle.fws_tree.proofs.Growing.{leaf_value, tree_of-extends, length-extends, tops_at}
use Rattle.fws_tree.proofs.Pieces.{row-push, end_of-push, row_at, piece_of}
use Rattle.fws_tree.proofs.Marking.{within-length, within_at}
use Rattle.std.proofs.Common.{nat_lt, Contains}
use Rattle.std.proofs.lemmas.Bool.{ltb-true, ltb-false}
use Rattle.std.proofs.lemmas.List.Elements.{All-contains, Contains-append_left, Contains-push}
use Rattle.fws_tree.specs.Building.{AreDifferent}
use Rattle.fws_tree.specs.Shown.{AreAddedBelow}
use Rattle.fws_tree.specs.Subtrees.{IsSubtree}
use Rattle.fws_tree.proofs.Joining.{reduced_later, branch_later}
use Rattle.fws_tree.proofs.Subtrees.{subtree-self, added_last}

-- the pieces of the steps so far
pub record AreClipped (ss : List Step) (last i lo : ℕ) (ps : List (Piece ℕ)) : Type 0 where
  pub row : AreInRow 0 ps
  pub end : end_of 0 ps ≡ lo
  pub leads : All (λ q. (x : ℕ) → q.lo ≤ x → x ≤ q.hi → child_at ss last x ≡ q.held) ps
  pub below : (n : ℕ) → All (λ s. s.node < n) ss → last < n → All (λ q. q.held < n) ps
  pub left : (x : ℕ) → lo ≤ x → child_at ss last x ≡ child_at (drop i ss) last x

one_off : (ss : List Step) (last i x : ℕ) (d : Step) → i < length ss → child_at (drop i ss) last x ≡ cond (nat_le x (get_or ss i d).hi) (get_or ss i d).node (child_at (drop (i + 1) ss) last x)
one_off ss last i x d lt = ap (λ ts. child_at ts last x) (drop_more ss i d lt)

pub clip-skip : (ss : List Step) (last i lo : ℕ) (d : Step) (ps : List (Piece ℕ)) → i < length ss → (get_or ss i d).hi < lo → AreClipped ss last i lo ps → AreClipped ss last (i + 1) lo ps
clip-skip ss last i lo d ps lt past c = record {
  row = c.row;
  end = c.end;
  leads = c.leads;
  below = c.below;
  left = λ x le. c.left x le ∙ one_off ss last i x d lt ∙ cond-false (nat_le x (get_or ss i d).hi) _ _ (lt-leb x (get_or ss i d).hi (omega arith));
}

-- one piece more, up to hi, with the step's cell
pub clip-push : (ss : List Step) (last i lo hi : ℕ) (d : Step) (ps : List (Piece ℕ)) → i < length ss → lo ≤ hi → hi ≤ (get_or ss i d).hi → AreClipped ss last i lo ps
    → (AreInRow 0 (ps ++ record { lo = lo; hi = hi; held = (get_or ss i d).node } ∷ [])) × (end_of 0 (ps ++ record { lo = lo; hi = hi; held = (get_or ss i d).node } ∷ []) ≡ hi + 1)
    × All (λ q. (x : ℕ) → q.lo ≤ x → x ≤ q.hi → child_at ss last x ≡ q.held) (ps ++ record { lo = lo; hi = hi; held = (get_or ss i d).node } ∷ [])
    × ((n : ℕ) → All (λ s. s.node < n) ss → last < n → All (λ q. q.held < n) (ps ++ record { lo = lo; hi = hi; held = (get_or ss i d).node } ∷ []))
clip-push ss last i lo hi d ps lt order le c =
    let q : Piece ℕ = record { lo = lo; hi = hi; held = (get_or ss i d).node } in (
      row-push 0 ps q c.row (sym c.end) order,
      end_of-push 0 ps q,
      All-push (λ q. (x : ℕ) → q.lo ≤ x → x ≤ q.hi → child_at ss last x ≡ q.held) ps q c.leads
          (λ x a b. c.left x a ∙ one_off ss last i x d lt ∙ cond-true (nat_le x (get_or ss i d).hi) _ _ (le-leb x (get_or ss i d).hi (omega arith))),
      λ n all l. All-push (λ q. q.held < n) ps q (c.below n all l) (all i d lt),
    )

pub clip-step : (ss : List Step) (last i lo : ℕ) (d : Step) (ps : List (Piece ℕ)) → i < length ss → lo ≤ (get_or ss i d).hi → AreClipped ss last i lo ps
    → AreClipped ss last (i + 1) ((get_or ss i d).hi + 1) (ps ++ record { lo = lo; hi = (get_or ss i d).hi; held = (get_or ss i d).node } ∷ [])
clip-step ss last i lo d ps lt order c =
    let r = clip-push ss last i lo (get_or ss i d).hi d ps lt order (omega arith) c in
    record {
      row = r.0;
      end = r.1;
      leads = r.2;
      below = r.3;
      left = λ x le. c.left x (omega arith) ∙ one_off ss last i x d lt ∙ cond-false (nat_le x (get_or ss i d).hi) _ _ (lt-leb x (get_or ss i d).hi (omega arith));
    }

-- the piece of what is past the steps
pub clip-end : (ss : List Step) (last i lo top : ℕ) (ps : List (Piece ℕ)) → length ss ≤ i → lo ≤ top → AreClipped ss last i lo ps
    → (AreInRow 0 (ps ++ record { lo = lo; hi = top; held = last } ∷ [])) × (end_of 0 (ps ++ record { lo = lo; hi = top; held = last } ∷ []) ≡ top + 1)
    × All (λ q. (x : ℕ) → q.lo ≤ x → x ≤ q.hi → child_at ss last x ≡ q.held) (ps ++ record { lo = lo; hi = top; held = last } ∷ [])
    × ((n : ℕ) → All (λ s. s.node < n) ss → last < n → All (λ q. q.held < n) (ps ++ record { lo = lo; hi = top; held = last } ∷ []))
clip-end ss last i lo top ps le order c =
    let q : Piece ℕ = record { lo = lo; hi = top; held = last } in (
      row-push 0 ps q c.row (sym c.end) order,
      end_of-push 0 ps q,
      All-push (λ q. (x : ℕ) → q.lo ≤ x → x ≤ q.hi → child_at ss last x ≡ q.held) ps q c.leads (λ x a b. c.left x a ∙ ap (λ ts. child_at ts last x) (drop_all i ss le)),
      λ n all l. All-push (λ q. q.held < n) ps q (c.below n all l) l,
    )

-- More nodes behind.

pub shown-extends : (cells : List Cell) (tops places : List ℕ) (f at : ℕ) (ns ms : List Node) (r : ℕ) → Extends ns ms → IsShown cells tops places f at ns r → IsShown cells tops places f at ms r
shown-extends cells tops places f at ns ms r e s =
    let same : tree_of ms r ≡ tree_of ns r = tree_of-extends ns ms r e s.inside in
    let l = length-extends ns ms e in
    let i = s.inside in
    record {
      inside = omega arith;
      reduced = subst (λ t. IsReducedFrom f (drop f tops) t) (sym same) s.reduced;
      value = λ p w. ap (λ t. value_from f t (drop f p)) same ∙ s.value p w;
    }

pub all_shown-extends : (cells : List Cell) (tops places : List ℕ) (ns ms : List Node) (m : Memo) → Extends ns ms → AreShown cells tops places ns m → AreShown cells tops places ms m
all_shown-extends cells tops places ns ms m e known f at r is = shown-extends cells tops places f at ns ms r e (known f at r is)

pub all_shown-note : (cells : List Cell) (tops places : List ℕ) (ns : List Node) (m n : Memo) (f at r : ℕ) → AreShown cells tops places ns m → Updates pair_eq m.found n.found (f, at) (Some r) → IsShown cells tops places f at ns r → AreShown cells tops places ns n
all_shown-note cells tops places ns m n f at r known u here g bt z is = elim (cases_Bool (pair_eq (f, at) (g, bt))) [
  | inl t ↦ (
      let p = and_parts (nat_eq f g) (nat_eq at bt) t in
      let s : Some r ≡ Some z = sym (cond-true (pair_eq (f, at) (g, bt)) (Some r) (get pair_eq m.found (g, bt)) t) ∙ sym (u.0 (g, bt)) ∙ is in
      let ez : r ≡ z = cc in
      subst (λ k. IsShown cells tops places g bt ns k) ez (subst (λ k. IsShown cells tops places g k ns r) (eqb-true at bt p.1) (subst (λ k. IsShown cells tops places k at ns r) (eqb-true f g p.0) here)))
  | inr e ↦ known g bt z (sym (cond-false (pair_eq (f, at) (g, bt)) (Some r) (get pair_eq m.found (g, bt)) e) ∙ sym (u.0 (g, bt)) ∙ is)
]

-- The pieces so far.

pub record AreShownPieces (cells : List Cell) (tops places : List ℕ) (f at : ℕ) (done : List (Piece ℕ)) (ns : List Node) (ps : List (Piece ℕ)) : Type 0 where
  pub row : AreInRow 0 ps
  pub end : end_of 0 ps ≡ end_of 0 done
  pub below : All (λ q. q.held < length ns) ps
  pub reduced : All (λ q. IsReducedFrom (suc f) (drop (suc f) tops) (tree_of ns q.held)) ps
  pub value : All (λ q. (p : List ℕ) → IsWithin tops p → q.lo ≤ get_or p f 0 → get_or p f 0 ≤ q.hi → value_from (suc f) (tree_of ns q.held) (drop (suc f) p) ≡ Some (get_or places (held_at cells at p) 0)) ps

pub pieces-next : (cells : List Cell) (tops places : List ℕ) (f g at top : ℕ) (cuts : List (Piece ℕ)) (i : ℕ) (d : Piece ℕ) (ns ms : List Node) (ps : List (Piece ℕ)) (r : ℕ) → IsPieced cells at f top cuts → i < length cuts → g ≡ suc f
    → Extends ns ms → AreShownPieces cells tops places f at (take i cuts) ns ps → IsShown cells tops places g (get_or cuts i d).held ms r
    → AreShownPieces cells tops places f at (take (i + 1) cuts) ms (ps ++ record { lo = (get_or cuts i d).lo; hi = (get_or cuts i d).hi; held = r } ∷ [])
pieces-next cells tops places f g at top cuts i d ns ms ps r pieced lt gf e b shown =
    let cut : Piece ℕ = get_or cuts i d in
    let q : Piece ℕ = record { lo = cut.lo; hi = cut.hi; held = r } in
    let s : IsShown cells tops places (suc f) cut.held ms r = subst (λ k. IsShown cells tops places k cut.held ms r) gf shown in
    let at' = row_at 0 cuts i d pieced.row lt in
    let taken : take (i + 1) cuts ≡ take i cuts ++ cut ∷ [] = take_more cuts i d lt in
    let l = length-extends ns ms e in
    record {
      row = row-push 0 ps q b.row (at'.0 ∙ sym b.end) at'.1;
      end = end_of-push 0 ps q ∙ sym (end_of-push 0 (take i cuts) cut) ∙ sym (ap (λ xs. end_of 0 xs) taken);
      below = All-push (λ q. q.held < length ms) ps q (λ k z h. let o = b.below k z h in omega arith) s.inside;
      reduced = All-push (λ q. IsReducedFrom (suc f) (drop (suc f) tops) (tree_of ms q.held)) ps q
          (λ k z h. subst (λ t. IsReducedFrom (suc f) (drop (suc f) tops) t) (sym (tree_of-extends ns ms (get_or ps k z).held e (b.below k z h))) (b.reduced k z h)) s.reduced;
      value = All-push (λ q. (p : List ℕ) → IsWithin tops p → q.lo ≤ get_or p f 0 → get_or p f 0 ≤ q.hi → value_from (suc f) (tree_of ms q.held) (drop (suc f) p) ≡ Some (get_or places (held_at cells at p) 0)) ps q
          (λ k z h p w lo hi. ap (λ t. value_from (suc f) t (drop (suc f) p)) (tree_of-extends ns ms (get_or ps k z).held e (b.below k z h)) ∙ b.value k z h p w lo hi)
          (λ p w lo hi. s.value p w ∙ ap (λ n. Some (get_or places n 0)) (sym ((pieced.held i d lt).1 p lo hi)));
    }

-- the node of all the pieces
pub pieces-joined : (cells : List Cell) (tops places : List ℕ) (f at : ℕ) (cuts : List (Piece ℕ)) (i : ℕ) (ns ms : List Node) (ps : List (Piece ℕ)) (r : ℕ) → f < 12 → length tops ≡ 12 → IsPieced cells at f (get_or tops f 0) cuts → length cuts ≤ i
    → AreShownPieces cells tops places f at (take i cuts) ns ps → r < length ms
    → ((top : ℕ) (ts : List ℕ) → end_of 0 ps ≡ suc top → All (λ q. IsReducedFrom (suc f) ts (tree_of ns q.held)) ps → IsReducedFrom f (top ∷ ts) (tree_of ms r))
    → ((ts : List ℕ) → All (λ q. IsReducedFrom (suc f) ts (tree_of ns q.held)) ps → All (λ q. (x : ℕ) → q.lo ≤ x → x ≤ q.hi → branch f (tree_of ms r) x ≡ tree_of ns q.held) ps)
    → IsShown cells tops places f at ms r
pieces-joined cells tops places f at cuts i ns ms ps r lf lt pieced all b inside reduced branches =
    let top : ℕ = get_or tops f 0 in
    let done : take i cuts ≡ cuts = take_all i cuts all in
    let end : end_of 0 ps ≡ suc top = b.end ∙ ap (λ xs. end_of 0 xs) done ∙ pieced.end ∙ add-one top in
    let here : drop f tops ≡ top ∷ drop (suc f) tops = tops_at tops f (omega arith) in
    record {
      inside = inside;
      reduced = subst (λ ts. IsReducedFrom f ts (tree_of ms r)) (sym here) (reduced top (drop (suc f) tops) end b.reduced);
      value = λ p w.
          let x : ℕ = get_or p f 0 in
          let lp = within-length tops p w in
          let le = within_at tops p f w (omega arith) in
          let d : Piece ℕ = record { lo = 0; hi = 0; held = 0 } in
          let k = piece_of 0 ps d x b.row (omega arith) (omega arith) in
          ap (λ q. value_from f (tree_of ms r) q) (tops_at p f (omega arith))
          ∙ ap (λ t. value_from (suc f) t (drop (suc f) p)) (branches (drop (suc f) tops) b.reduced k.0 d k.1 x k.2 k.3)
          ∙ b.value k.0 d k.1 p w k.2 k.3;
    }

-- A leaf.

pub leaf_shown : (cells : List Cell) (tops places : List ℕ) (f at n m : ℕ) (c : Cell) (ns : List Node) (r : ℕ) → AreOrderedFrom 0 cells → slice_get cells at ≡ Some c → c ≡ Leaf n → m ≡ get_or places n 0 → r < length ns → tree_of ns r ≡ leaf m → IsShown cells tops places f at ns r
leaf_shown cells tops places f at n m c ns r h is e s inside tree = record {
  inside = inside;
  reduced = subst (λ t. IsReducedFrom f (drop f tops) t) (sym tree) tt;
  value = λ p w. ap (λ t. value_from f t (drop f p)) tree ∙ leaf_value f m (drop f p) ∙ ap (λ k. Some k) (s ∙ ap (λ k. get_or places k 0) (sym (held_cell cells at (Leaf n) p h (is ∙ ap Some e))));
}

pub pieced : (cells : List Cell) (at f top last : ℕ) (ss : List Step) (ps : List (Piece ℕ)) → at < length cells → ((p : List ℕ) → held_at cells at p ≡ held_at cells (child_at ss last (get_or p f 0)) p) → All (λ s. s.node < at + 1) ss → last < at + 1
    → AreInRow 0 ps → end_of 0 ps ≡ top + 1 → All (λ q. (x : ℕ) → q.lo ≤ x → x ≤ q.hi → child_at ss last x ≡ q.held) ps → ((n : ℕ) → All (λ s. s.node < n) ss → last < n → All (λ q. q.held < n) ps) → IsPieced cells at f top ps
pieced cells at f top last ss ps lt held sb lb row end leads below = record {
  row = row;
  end = end;
  held = λ k d h. ((let b = below (at + 1) sb lb k d h in omega arith), λ p lo hi. held p ∙ ap (λ n. held_at cells n p) (leads k d h (get_or p f 0) lo hi));
}

pub grown-extends : {X : Type 0} (old new : List X) (x : X) → (new ≡ old) ⊎ (new ≡ old ++ x ∷ []) → Extends old new
grown-extends old new x (inl e) = ([], e ∙ sym (append-nil old))
grown-extends old new x (inr e) = (x ∷ [], e)

-- A cell that cuts a later field is shown over the earlier ones too.

shown_before : (cells : List Cell) (tops places : List ℕ) (f at : ℕ) (ns : List Node) (r : ℕ) → f < length tops → IsShown cells tops places (suc f) at ns r → IsShown cells tops places f at ns r
shown_before cells tops places f at ns r lt s =
    let here : drop f tops ≡ get_or tops f 0 ∷ drop (suc f) tops = tops_at tops f lt in
    record {
      inside = s.inside;
      reduced = subst (λ ts. IsReducedFrom f ts (tree_of ns r)) (sym here) (reduced_later f (get_or tops f 0) (drop (suc f) tops) (tree_of ns r) s.reduced);
      value = λ p w.
          let lp = within-length tops p w in
          ap (λ q. value_from f (tree_of ns r) q) (tops_at p f (omega arith))
          ∙ ap (λ t. value_from (suc f) t (drop (suc f) p)) (branch_later f (drop (suc f) tops) (tree_of ns r) s.reduced (get_or p f 0)) ∙ s.value p w;
    }

pub shown_up : (cells : List Cell) (tops places : List ℕ) (f g at : ℕ) (ns : List Node) (r : ℕ) → f ≤ g → g ≤ length tops → IsShown cells tops places g at ns r → IsShown cells tops places f at ns r
shown_up cells tops places f g at ns r le lt s = by (g - f) f (omega arith)
  where
    by : (d h : ℕ) → g ≡ d + h → IsShown cells tops places h at ns r
    by zero h e = subst (λ k. IsShown cells tops places k at ns r) (let z : g ≡ h = omega arith in z) s
    by (suc d) h e = shown_before cells tops places h at ns r (omega arith) (by d (suc h) (omega arith))

-- The nodes that were added.

-- each new node is a subtree of a piece's
abbrev pub AreAddedUnder : List Node → List Node → List (Piece ℕ) → Type 0
AreAddedUnder old new ps = (k : ℕ) → length old ≤ k → k < length new → (q : Piece ℕ) × Contains ps q × IsSubtree (tree_of new k) (tree_of new q.held)

pub under-next : (old mid new : List Node) (ps : List (Piece ℕ)) (q : Piece ℕ) → Extends mid new → All (λ z. z.held < length mid) ps → AreAddedUnder old mid ps → AreAddedBelow mid new q.held → AreAddedUnder old new (ps ++ q ∷ [])
under-next old mid new ps q e below under here k le lt = elim (cases_Bool (nat_lt k (length mid))) [
  | inl t ↦ (
      let l : k < length mid = ltb-true k (length mid) t in
      let u = under k le l in
      let lh : u.0.held < length mid = All-contains (λ z. z.held < length mid) ps u.0 below u.1 in (
        u.0,
        Contains-append_left ps (q ∷ []) u.0 u.1,
        subst (λ t. IsSubtree t (tree_of new u.0.held)) (sym (tree_of-extends mid new k e l)) (subst (λ t. IsSubtree (tree_of mid k) t) (sym (tree_of-extends mid new u.0.held e lh)) u.2),
      ))
  | inr f ↦ (q, Contains-push ps q, here k (ltb-false k (length mid) f) lt)
]

pub under-joined : (old mid new : List Node) (ps : List (Piece ℕ)) (r : ℕ) → Extends mid new → AreAddedUnder old mid ps
    → All (λ q. (u : Plain ℕ) → IsSubtree u (tree_of mid q.held) → IsSubtree u (tree_of new r)) ps → ((k : ℕ) → length mid ≤ k → k < length new → k ≡ r) → AreAddedBelow old new r
under-joined old mid new ps r e under over added k le lt = elim (cases_Bool (nat_lt k (length mid))) [
  | inl t ↦ (
      let l : k < length mid = ltb-true k (length mid) t in
      let u = under k le l in
      subst (λ t. IsSubtree t (tree_of new r)) (sym (tree_of-extends mid new k e l)) (All-contains (λ q. (u : Plain ℕ) → IsSubtree u (tree_of mid q.held) → IsSubtree u (tree_of new r)) ps u.0 over u.1 (tree_of mid k) u.2))
  | inr f ↦ subst (λ j. IsSubtree (tree_of new k) (tree_of new j)) (added k (ltb-false k (length mid) f) lt) (subtree-self (tree_of new k))
]

-- a leaf alone
pub added_leaf : (old new : List Node) (x : Node) (r : ℕ) → AreDifferent new → (new ≡ old) ⊎ (new ≡ old ++ x ∷ []) → slice_get new r ≡ Some x → AreAddedBelow old new r
added_leaf old new x r d grown at k le lt = subst (λ j. IsSubtree (tree_of new k) (tree_of new j)) (added_last old new x r k d grown at le lt) (subtree-self (tree_of new k))
