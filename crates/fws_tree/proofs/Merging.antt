-- The merge of two cells that were met, step by step.
use Rattle.std.proofs.Common.{◌≡◌, Bool, true, false, cond, ℕ, suc, ◌+◌, ◌<◌, ◌≤◌, List, [], ◌∷◌, ◌++◌, length, get_or, take, map, nat_le, inl, inr, refl, sym, ◌∙◌, ap, subst, arith, All, Some, slice_get, ◌⊎◌, Option, None, MatchOption, append_assoc}
use Rattle.std.specs.Prelude.{slice_range}
use Rattle.std.specs.List.{flat_map}
use Rattle.std.proofs.lemmas.List.{append-nil, take_all, take_more}
use Rattle.std.proofs.lemmas.List.Elements.{All-push}
use Rattle.std.proofs.lemmas.Option.{slice_get-get_or}
use Rattle.std.proofs.lemmas.Bool.{cases_Bool, cond-true, cond-false}
use Rattle.fws_tree.specs.declared.store.Step.{Step}
use Rattle.fws_tree.specs.declared.store.Cell.{Cell}
use Rattle.fws_tree.specs.declared.store.Cell.TheVariants.{Leaf}
use Rattle.fws_tree.specs.declared.together.Both.{Both}
use Rattle.fws_tree.specs.Building.{Extends}
use Rattle.fws_tree.specs.Held.{child_at, held_at, pick, field_of}
use Rattle.fws_tree.specs.declared.narrow.Part.{Part}
use Rattle.fws_tree.specs.Merged.{left_at, right_at, IsMerged, HaveCut, CanSkip}
use Rattle.fws_tree.specs.Parts.{CanStay, Stays, both_with, part_steps, all_steps, IsPartOf, AreParted}
use Rattle.fws_tree.proofs.Asking.{slice_below, parts_push}
use Rattle.fws_tree.proofs.Cells.{held-extends, length-extends}
use Rattle.fws_tree.proofs.Steps.{pick_child, pick-push, pick_same, pick_left, pick_right, pick_left_at, pick_right_at, pick_left-push, pick_right-push}

-- whatever is given stays given
abbrev pub GivesMore : (ℕ → ℕ → ℕ → Type 0) → (ℕ → ℕ → ℕ → Type 0) → Type 0
GivesMore r s = (x y z : ℕ) → r x y z → s x y z

-- what lies within the steps is merged, and what lies past them is as it is
abbrev pub IsMergedBy : (ℕ → ℕ → ℕ → Type 0) → (ℕ → ℕ) → (ℕ → ℕ) → (ℕ → ℕ) → Type 0
IsMergedBy gives l r s = ((y z w : ℕ) → gives (l y) (r z) (s w)) ⊎ ((y z w : ℕ) → (l y ≡ y) × (r z ≡ z) × (s w ≡ w))

pub given-same : (gives : ℕ → ℕ → ℕ → Type 0) (a b c d e f : ℕ) → a ≡ d → b ≡ e → c ≡ f → gives a b c → gives d e f
given-same gives a b c d e f x y z g = subst (λ k. gives d e k) z (subst (λ k. gives d k c) y (subst (λ k. gives k b c) x g))

by-more : (r s : ℕ → ℕ → ℕ → Type 0) (a b c d : ℕ → ℕ) → GivesMore r s → ((w : ℕ) → d w ≡ c w) → IsMergedBy r a b c → IsMergedBy s a b d
by-more r s a b c d more same m = elim m [
  | inl g ↦ inl (λ y z w. given-same s (a y) (b z) (c w) (a y) (b z) (d w) refl refl (sym (same w)) (more (a y) (b z) (c w) (g y z w)))
  | inr e ↦ inr (λ y z w. ((e y z w).0, (e y z w).1, same w ∙ (e y z w).2))
]

by-push : (gives : ℕ → ℕ → ℕ → Type 0) (a b c d e f : ℕ → ℕ) (t : Bool) (l r n : ℕ) → gives l r n → ((y : ℕ) → d y ≡ a (cond t l y)) → ((z : ℕ) → e z ≡ b (cond t r z)) → ((w : ℕ) → f w ≡ c (cond t n w))
    → IsMergedBy gives a b c → IsMergedBy gives d e f
by-push gives a b c d e f t l r n here x y z m = elim m [
  | inl g ↦ inl (λ i j k. given-same gives (a (cond t l i)) (b (cond t r j)) (c (cond t n k)) (d i) (e j) (f k) (sym (x i)) (sym (y j)) (sym (z k)) (g (cond t l i) (cond t r j) (cond t n k)))
  | inr s ↦ (elim (cases_Bool t) [
    | inl is ↦ inl (λ i j k.
        let h = s (cond t l i) (cond t r j) (cond t n k) in
        given-same gives l r n (d i) (e j) (f k) (sym (x i ∙ h.0 ∙ cond-true t l i is)) (sym (y j ∙ h.1 ∙ cond-true t r j is)) (sym (z k ∙ h.2 ∙ cond-true t n k is)) here)
    | inr is ↦ inr (λ i j k.
        let h = s (cond t l i) (cond t r j) (cond t n k) in
        (x i ∙ h.0 ∙ cond-false t l i is, y j ∙ h.1 ∙ cond-false t r j is, z k ∙ h.2 ∙ cond-false t n k is))
  ])
]

by-all : (gives : ℕ → ℕ → ℕ → Type 0) (a b c : ℕ → ℕ) (y z w : ℕ) → IsMergedBy gives a b c → gives y z w → gives (a y) (b z) (c w)
by-all gives a b c y z w m past = elim m [
  | inl g ↦ g y z w
  | inr e ↦ (let h = e y z w in given-same gives y z w (a y) (b z) (c w) (sym h.0) (sym h.1) (sym h.2) past)
]

-- the steps so far, merged
pub record AreMerged (gives : ℕ → ℕ → ℕ → Type 0) (old new : List Cell) (bs : List Both) (ss : List Step) : Type 0 where
  pub below : All (λ s. s.node < length new) ss
  pub held : (p : List ℕ) (x : ℕ) → IsMergedBy gives (λ y. pick_left (λ n. held_at old n p) bs y x) (λ z. pick_right (λ n. held_at old n p) bs z x) (λ w. pick (λ n. held_at new n p) ss w x)

-- the steps so far, where the first cells stay
abbrev pub AreKept : (ℕ → ℕ → ℕ → Type 0) → List Cell → List Both → Type 0
AreKept gives old bs = (p : List ℕ) (x : ℕ) → IsMergedBy gives (λ y. pick_left (λ n. held_at old n p) bs y x) (λ z. pick_right (λ n. held_at old n p) bs z x) (λ w. pick_left (λ n. held_at old n p) bs w x)

pub merged-none : (gives : ℕ → ℕ → ℕ → Type 0) (old : List Cell) → AreMerged gives old old [] []
merged-none gives old = record { below = λ k d lt. absurd (omega arith); held = λ p x. inr (λ y z w. (refl, refl, refl)) }

pub kept-none : (gives : ℕ → ℕ → ℕ → Type 0) (old : List Cell) → AreKept gives old []
kept-none gives old p x = inr (λ y z w. (refl, refl, refl))

merged-extends : (r s : ℕ → ℕ → ℕ → Type 0) (old mid new : List Cell) (bs : List Both) (ss : List Step) → GivesMore r s → Extends mid new → AreMerged r old mid bs ss → AreMerged s old new bs ss
merged-extends r s old mid new bs ss more e m = record {
  below = λ k d lt. let l = m.below k d lt in let g = length-extends mid new e in omega arith;
  held = λ p x. by-more r s (λ y. pick_left (λ n. held_at old n p) bs y x) (λ z. pick_right (λ n. held_at old n p) bs z x) (λ w. pick (λ n. held_at mid n p) ss w x) (λ w. pick (λ n. held_at new n p) ss w x) more
      (λ w. pick_same (λ n. held_at new n p) (λ n. held_at mid n p) ss w x (λ k d lt. held-extends mid new (get_or ss k d).node p e (m.below k d lt))) (m.held p x);
}

kept-extends : (r s : ℕ → ℕ → ℕ → Type 0) (old : List Cell) (bs : List Both) → GivesMore r s → AreKept r old bs → AreKept s old bs
kept-extends r s old bs more m p x =
    let l : ℕ → ℕ = λ y. pick_left (λ n. held_at old n p) bs y x in
    by-more r s l (λ z. pick_right (λ n. held_at old n p) bs z x) l l more (λ w. refl) (m p x)

merged-more : (gives : ℕ → ℕ → ℕ → Type 0) (old new : List Cell) (bs : List Both) (ss ts : List Step) (b : Both) (n : ℕ) → AreMerged gives old new bs ss → IsMerged gives old new b.left b.right n
    → All (λ s. s.node < length new) ts → ((v : ℕ → ℕ) (z x : ℕ) → pick v ts z x ≡ pick v (ss ++ record { hi = b.hi; node = n } ∷ []) z x) → AreMerged gives old new (bs ++ b ∷ []) ts
merged-more gives old new bs ss ts b n m here below same = record {
  below = below;
  held = λ p x.
      let v : ℕ → ℕ = λ k. held_at new k p in
      let w : ℕ → ℕ = λ k. held_at old k p in
      by-push gives (λ y. pick_left w bs y x) (λ z. pick_right w bs z x) (λ k. pick v ss k x) (λ y. pick_left w (bs ++ b ∷ []) y x) (λ z. pick_right w (bs ++ b ∷ []) z x) (λ k. pick v ts k x) (nat_le x b.hi)
      (w b.left) (w b.right) (v n) (here p) (λ y. pick_left-push w bs b y x) (λ z. pick_right-push w bs b z x) (λ k. same v k x ∙ pick-push v ss (record { hi = b.hi; node = n }) k x) (m.held p x);
}

-- a merge of cells that stood in an earlier store
pub merged_earlier : (gives : ℕ → ℕ → ℕ → Type 0) (old mid new : List Cell) (a b n : ℕ) → Extends old mid → a < length old → b < length old → IsMerged gives mid new a b n → IsMerged gives old new a b n
merged_earlier gives old mid new a b n e la lb m p =
    given-same gives (held_at mid a p) (held_at mid b p) (held_at new n p) (held_at old a p) (held_at old b p) (held_at new n p) (held-extends old mid a p e la) (held-extends old mid b p e lb) refl (m p)

-- one step more that was asked for
merged-one : (r s : ℕ → ℕ → ℕ → Type 0) (old mid new : List Cell) (bs : List Both) (b : Both) (ss ts : List Step) (n : ℕ) → GivesMore r s → Extends old mid → Extends mid new → AreMerged r old mid bs ss
    → b.left < length old → b.right < length old → IsMerged s mid new b.left b.right n → n < length new
    → ((m : ℕ) → All (λ s. s.node < m) ss → n < m → All (λ s. s.node < m) ts) → ((v : ℕ → ℕ) (z x : ℕ) → pick v ts z x ≡ pick v (ss ++ record { hi = b.hi; node = n } ∷ []) z x)
    → AreMerged s old new (bs ++ b ∷ []) ts
merged-one r s old mid new bs b ss ts n more e f m la lb here inside below same =
    let longer : AreMerged s old new bs ss = merged-extends r s old mid new bs ss more f m in
    merged-more s old new bs ss ts b n longer (merged_earlier s old mid new b.left b.right n e la lb here) (below (length new) longer.below inside) same

kept-more : (gives : ℕ → ℕ → ℕ → Type 0) (old : List Cell) (bs : List Both) (b : Both) → IsMerged gives old old b.left b.right b.left → AreKept gives old bs → AreKept gives old (bs ++ b ∷ [])
kept-more gives old bs b here m p x =
    let w : ℕ → ℕ = λ k. held_at old k p in
    by-push gives (λ y. pick_left w bs y x) (λ z. pick_right w bs z x) (λ k. pick_left w bs k x) (λ y. pick_left w (bs ++ b ∷ []) y x) (λ z. pick_right w (bs ++ b ∷ []) z x) (λ k. pick_left w (bs ++ b ∷ []) k x)
    (nat_le x b.hi) (w b.left) (w b.right) (w b.left) (here p) (λ y. pick_left-push w bs b y x) (λ z. pick_right-push w bs b z x) (λ k. pick_left-push w bs b k x) (m p x)

-- one step more whose first cell stayed
kept-one : (r s : ℕ → ℕ → ℕ → Type 0) (old mid new : List Cell) (bs : List Both) (b : Both) (n : ℕ) → GivesMore r s → Extends old mid → Extends mid new → AreKept r old bs
    → b.left < length old → b.right < length old → IsMerged s mid new b.left b.right n → n ≡ b.left → AreKept s old (bs ++ b ∷ [])
kept-one r s old mid new bs b n more e f m la lb here same = kept-more s old bs b (λ p.
    let stays : held_at new n p ≡ held_at old b.left p = ap (λ k. held_at new k p) same ∙ held-extends mid new b.left p f (let l = length-extends old mid e in omega arith) ∙ held-extends old mid b.left p e la in
    given-same s (held_at mid b.left p) (held_at mid b.right p) (held_at new n p) (held_at old b.left p) (held_at old b.right p) (held_at old b.left p) (held-extends old mid b.left p e la) (held-extends old mid b.right p e lb) stays (here p))
    (kept-extends r s old bs more m)

-- Runs that stay.

-- what stays at a second cell is merged with it
stay_given : (r : ℕ → ℕ → ℕ → Type 0) (old mid : List Cell) (masks : List ℕ) (wanted : ℕ) (stay : Option ℕ) (left right : ℕ) → Extends old mid → CanSkip r mid masks wanted → CanStay r mid stay
    → left < length old → right < length old → Stays masks wanted stay left right → IsMerged r old mid left right left
stay_given r old mid masks wanted stay left right e skip can la lb stays p =
    let given : r (held_at mid left p) (held_at mid right p) (held_at mid left p) = elim stays [
      | inl h ↦ (skip left h).1 p (held_at mid right p)
      | inr h ↦ (can right h).1 p (held_at mid left p)
    ] in
    given-same r (held_at mid left p) (held_at mid right p) (held_at mid left p) (held_at old left p) (held_at old right p) (held_at mid left p) (held-extends old mid left p e la) (held-extends old mid right p e lb) refl given

run_given : (r : ℕ → ℕ → ℕ → Type 0) (old mid : List Cell) (masks : List ℕ) (wanted : ℕ) (stay : Option ℕ) (xs : List Step) (from to right : ℕ) → Extends old mid → CanSkip r mid masks wanted → CanStay r mid stay
    → All (λ s. s.node < length old) xs → right < length old → All (λ s. Stays masks wanted stay s.node right) (slice_range xs from to) → All (λ s. IsMerged r old mid s.node right s.node) (slice_range xs from to)
run_given r old mid masks wanted stay xs from to right e skip can below lb stays i d lt =
    let la = slice_below (length old) xs from to below i d lt in
    stay_given r old mid masks wanted stay (get_or (slice_range xs from to) i d).node right e skip can la lb (stays i d lt)

merged_run : (gives : ℕ → ℕ → ℕ → Type 0) (old new : List Cell) (bs : List Both) (ss run : List Step) (right : ℕ) → AreMerged gives old new bs ss
    → All (λ s. IsMerged gives old new s.node right s.node) run → All (λ s. s.node < length new) run → AreMerged gives old new (bs ++ map (both_with right) run) (ss ++ run)
merged_run gives old new bs ss [] right m all below =
    subst (λ cs. AreMerged gives old new cs (ss ++ [])) (sym (append-nil bs)) (subst (λ ts. AreMerged gives old new bs ts) (sym (append-nil ss)) m)
merged_run gives old new bs ss (s ∷ run) right m all below =
    let b : Both = both_with right s in
    let one : AreMerged gives old new (bs ++ b ∷ []) (ss ++ s ∷ []) =
    merged-more gives old new bs ss (ss ++ s ∷ []) b s.node m (all 0 s (omega arith)) (All-push (λ s. s.node < length new) ss s m.below (below 0 s (omega arith))) (λ v z x. refl) in
    subst (λ cs. AreMerged gives old new cs (ss ++ s ∷ run)) (append_assoc bs (b ∷ []) (map (both_with right) run))
    (subst (λ ts. AreMerged gives old new ((bs ++ b ∷ []) ++ map (both_with right) run) ts) (append_assoc ss (s ∷ []) run)
    (merged_run gives old new (bs ++ b ∷ []) (ss ++ s ∷ []) run right one (λ k d lt. all (suc k) d (omega arith)) (λ k d lt. below (suc k) d (omega arith))))

kept_run : (gives : ℕ → ℕ → ℕ → Type 0) (old : List Cell) (bs : List Both) (run : List Step) (right : ℕ) → AreKept gives old bs → All (λ s. IsMerged gives old old s.node right s.node) run
    → AreKept gives old (bs ++ map (both_with right) run)
kept_run gives old bs [] right m all = subst (λ cs. AreKept gives old cs) (sym (append-nil bs)) m
kept_run gives old bs (s ∷ run) right m all =
    subst (λ cs. AreKept gives old cs) (append_assoc bs (both_with right s ∷ []) (map (both_with right) run))
    (kept_run gives old (bs ++ both_with right s ∷ []) run right (kept-more gives old bs (both_with right s) (all 0 s (omega arith)) m) (λ k d lt. all (suc k) d (omega arith)))

-- the steps so far with a run of the first cell's steps behind them
merged_through : (r : ℕ → ℕ → ℕ → Type 0) (old mid : List Cell) (masks : List ℕ) (wanted : ℕ) (stay : Option ℕ) (xs own : List Step) (from to right : ℕ) (bs : List Both) (ss ts : List Step) → Extends old mid → own ≡ xs
    → CanSkip r mid masks wanted → CanStay r mid stay → All (λ s. s.node < length old) xs → right < length old → All (λ s. Stays masks wanted stay s.node right) (slice_range xs from to) → AreMerged r old mid bs ss
    → ((m : ℕ) → All (λ s. s.node < m) ss → All (λ s. s.node < m) own → All (λ s. s.node < m) ts) → ((v : ℕ → ℕ) (z x : ℕ) → pick v ts z x ≡ pick v (ss ++ slice_range own from to) z x)
    → AreMerged r old mid (bs ++ map (both_with right) (slice_range xs from to)) ts
merged_through r old mid masks wanted stay xs own from to right bs ss ts e same_own skip can nodes lb stays m below same =
    let longer = length-extends old mid e in
    let later : All (λ s. s.node < length mid) xs = λ k d lt. let l = nodes k d lt in omega arith in
    let run : List Step = slice_range xs from to in
    let ran : AreMerged r old mid (bs ++ map (both_with right) run) (ss ++ run) =
    merged_run r old mid bs ss run right m (run_given r old mid masks wanted stay xs from to right e skip can nodes lb stays) (slice_below (length mid) xs from to later) in
    record {
      below = below (length mid) m.below (subst (λ (zs : List Step). All (λ s. s.node < length mid) zs) (sym same_own) later);
      held = λ p x.
          let v : ℕ → ℕ = λ n. held_at mid n p in
          let cs : List Both = bs ++ map (both_with right) run in
          by-more r r (λ y. pick_left (λ n. held_at old n p) cs y x) (λ z. pick_right (λ n. held_at old n p) cs z x) (λ w. pick v (ss ++ run) w x) (λ w. pick v ts w x) (λ x y z h. h)
          (λ w. same v w x ∙ ap (λ (zs : List Step). pick v (ss ++ slice_range zs from to) w x) same_own) (ran.held p x);
    }

kept_through : (r : ℕ → ℕ → ℕ → Type 0) (old mid : List Cell) (masks : List ℕ) (wanted : ℕ) (stay : Option ℕ) (xs : List Step) (from to right : ℕ) (bs : List Both) → Extends old mid
    → CanSkip r mid masks wanted → CanStay r mid stay → All (λ s. s.node < length old) xs → right < length old → All (λ s. Stays masks wanted stay s.node right) (slice_range xs from to) → AreKept r old bs
    → AreKept r old (bs ++ map (both_with right) (slice_range xs from to))
kept_through r old mid masks wanted stay xs from to right bs e skip can nodes lb stays m =
    kept_run r old bs (slice_range xs from to) right m (λ k d lt p.
    let n : ℕ = (get_or (slice_range xs from to) k d).node in
    let la : n < length old = slice_below (length old) xs from to nodes k d lt in
    subst (λ z. r (held_at old n p) (held_at old right p) z) (held-extends old mid n p e la) (run_given r old mid masks wanted stay xs from to right e skip can nodes lb stays k d lt p))

-- a part more

flat_more : (xs : List Step) (ps : List Part) (i : ℕ) (d : Part) → i < length ps
    → (flat_map (part_steps xs) (take i ps) ++ map (both_with (get_or ps i d).right) (slice_range xs (get_or ps i d).from (get_or ps i d).to)) ++ record { hi = (get_or ps i d).hi; left = (get_or ps i d).left; right = (get_or ps i d).right } ∷ []
    ≡ flat_map (part_steps xs) (take (i + 1) ps)
flat_more xs ps i d lt =
    let p : Part = get_or ps i d in
    append_assoc (flat_map (part_steps xs) (take i ps)) (map (both_with p.right) (slice_range xs p.from p.to)) (record { hi = p.hi; left = p.left; right = p.right } ∷ [])
    ∙ sym (ap (λ (qs : List Part). flat_map (part_steps xs) qs) (take_more ps i d lt) ∙ parts_push xs (take i ps) p)

pub merged-part : (r s : ℕ → ℕ → ℕ → Type 0) (old mid new : List Cell) (masks : List ℕ) (wanted : ℕ) (stay : Option ℕ) (a b : ℕ) (xs own : List Step) (ps : List Part) (i : ℕ) (d : Part) (ss ts us : List Step) (n : ℕ)
    → GivesMore r s → i < length ps → Extends old mid → Extends mid new → own ≡ xs → CanSkip r mid masks wanted → CanStay r mid stay → All (λ s. s.node < length old) xs
    → IsPartOf old masks wanted stay a b xs (get_or ps i d) → AreMerged r old mid (flat_map (part_steps xs) (take i ps)) ss
    → ((m : ℕ) → All (λ s. s.node < m) ss → All (λ s. s.node < m) own → All (λ s. s.node < m) ts) → ((v : ℕ → ℕ) (z x : ℕ) → pick v ts z x ≡ pick v (ss ++ slice_range own (get_or ps i d).from (get_or ps i d).to) z x)
    → IsMerged s mid new (get_or ps i d).left (get_or ps i d).right n → n < length new
    → ((m : ℕ) → All (λ s. s.node < m) ts → n < m → All (λ s. s.node < m) us) → ((v : ℕ → ℕ) (z x : ℕ) → pick v us z x ≡ pick v (ts ++ record { hi = (get_or ps i d).hi; node = n } ∷ []) z x)
    → AreMerged s old new (flat_map (part_steps xs) (take (i + 1) ps)) us
merged-part r s old mid new masks wanted stay a b xs own ps i d ss ts us n more lt e f same_own skip can nodes part m below same here inside below' same' =
    let p : Part = get_or ps i d in
    let bs : List Both = flat_map (part_steps xs) (take i ps) in
    subst (λ cs. AreMerged s old new cs us) (flat_more xs ps i d lt)
    (merged-one r s old mid new (bs ++ map (both_with p.right) (slice_range xs p.from p.to)) (record { hi = p.hi; left = p.left; right = p.right }) ts us n more e f
    (merged_through r old mid masks wanted stay xs own p.from p.to p.right bs ss ts e same_own skip can nodes part.below.1 part.run m below same)
    part.below.0 part.below.1 here inside below' same')

pub kept-part : (r s : ℕ → ℕ → ℕ → Type 0) (old mid new : List Cell) (masks : List ℕ) (wanted : ℕ) (stay : Option ℕ) (a b : ℕ) (xs : List Step) (ps : List Part) (i : ℕ) (d : Part) (n : ℕ)
    → GivesMore r s → i < length ps → Extends old mid → Extends mid new → CanSkip r mid masks wanted → CanStay r mid stay → All (λ s. s.node < length old) xs
    → IsPartOf old masks wanted stay a b xs (get_or ps i d) → AreKept r old (flat_map (part_steps xs) (take i ps))
    → IsMerged s mid new (get_or ps i d).left (get_or ps i d).right n → n ≡ (get_or ps i d).left → AreKept s old (flat_map (part_steps xs) (take (i + 1) ps))
kept-part r s old mid new masks wanted stay a b xs ps i d n more lt e f skip can nodes part m here same =
    let p : Part = get_or ps i d in
    let bs : List Both = flat_map (part_steps xs) (take i ps) in
    subst (λ cs. AreKept s old cs) (flat_more xs ps i d lt)
    (kept-one r s old mid new (bs ++ map (both_with p.right) (slice_range xs p.from p.to)) (record { hi = p.hi; left = p.left; right = p.right }) n more e f
    (kept_through r old mid masks wanted stay xs p.from p.to p.right bs e skip can nodes part.below.1 part.run m)
    part.below.0 part.below.1 here same)

-- the last run

pub merged-rest : (r s : ℕ → ℕ → ℕ → Type 0) (old mid new : List Cell) (masks : List ℕ) (wanted : ℕ) (stay : Option ℕ) (a b f : ℕ) (xs own : List Step) (ps all : List Part) (i from to left right : ℕ) (ss ts : List Step)
    → GivesMore r s → Extends old mid → Extends mid new → own ≡ xs → CanSkip r mid masks wanted → CanStay r mid stay → AreParted old masks wanted stay a b f xs all from to left right
    → AreMerged r old mid (flat_map (part_steps xs) (take i ps)) ss → length ps ≤ i → ps ≡ all
    → ((m : ℕ) → All (λ s. s.node < m) ss → All (λ s. s.node < m) own → All (λ s. s.node < m) ts) → ((v : ℕ → ℕ) (z x : ℕ) → pick v ts z x ≡ pick v (ss ++ slice_range own from to) z x)
    → AreMerged s old new (all_steps xs all from to right) ts
merged-rest r s old mid new masks wanted stay a b f xs own ps all i from to left right ss ts more e g same_own skip can met m le is below same =
    merged-extends r s old mid new (all_steps xs all from to right) ts more g
    (merged_through r old mid masks wanted stay xs own from to right (flat_map (part_steps xs) all) ss ts e same_own skip can met.nodes met.last.1 met.run
    (subst (λ (qs : List Part). AreMerged r old mid (flat_map (part_steps xs) qs) ss) (take_all i ps le ∙ is) m) below same)

pub kept-rest : (r s : ℕ → ℕ → ℕ → Type 0) (old mid : List Cell) (masks : List ℕ) (wanted : ℕ) (stay : Option ℕ) (a b f : ℕ) (xs : List Step) (ps all : List Part) (i from to left right : ℕ)
    → GivesMore r s → Extends old mid → CanSkip r mid masks wanted → CanStay r mid stay → AreParted old masks wanted stay a b f xs all from to left right
    → AreKept r old (flat_map (part_steps xs) (take i ps)) → length ps ≤ i → ps ≡ all → AreKept s old (all_steps xs all from to right)
kept-rest r s old mid masks wanted stay a b f xs ps all i from to left right more e skip can met m le is =
    kept-extends r s old (all_steps xs all from to right) more
    (kept_through r old mid masks wanted stay xs from to right (flat_map (part_steps xs) all) e skip can met.nodes met.last.1 met.run
    (subst (λ (qs : List Part). AreKept r old (flat_map (part_steps xs) qs)) (take_all i ps le ∙ is) m))

-- a part among those of two cells
pub part_at : (cells : List Cell) (masks : List ℕ) (wanted : ℕ) (stay : Option ℕ) (a b f : ℕ) (xs : List Step) (ps all : List Part) (i from to left right : ℕ) (d : Part) → AreParted cells masks wanted stay a b f xs all from to left right
    → ps ≡ all → i < length ps → IsPartOf cells masks wanted stay a b xs (get_or ps i d)
part_at cells masks wanted stay a b f xs ps all i from to left right d met is lt = subst (λ (qs : List Part). All (λ p. IsPartOf cells masks wanted stay a b xs p) qs) (sym is) met.each i d lt

pub merged_cut : (gives : ℕ → ℕ → ℕ → Type 0) (old early mid new : List Cell) (a b f l r last n : ℕ) (bs : List Both) (ss : List Step) → Extends old early → a < length old → b < length old
    → ((p : List ℕ) → held_at early a p ≡ held_at early (left_at bs l (get_or p f 0)) p) → ((p : List ℕ) → held_at early b p ≡ held_at early (right_at bs r (get_or p f 0)) p) → AreMerged gives early mid bs ss → IsMerged gives early mid l r last → ((p : List ℕ) → held_at new n p ≡ held_at mid (child_at ss last (get_or p f 0)) p) → IsMerged gives old new a b n
merged_cut gives old early mid new a b f l r last n bs ss e la lb hl hr m lasts cut p =
    let x : ℕ = get_or p f 0 in
    let v : ℕ → ℕ = λ k. held_at mid k p in
    let w : ℕ → ℕ = λ k. held_at early k p in
    given-same gives (pick_left w bs (w l) x) (pick_right w bs (w r) x) (pick v ss (v last) x) (held_at old a p) (held_at old b p) (held_at new n p)
    (sym (hl p ∙ pick_left_at w bs l x) ∙ held-extends old early a p e la) (sym (hr p ∙ pick_right_at w bs r x) ∙ held-extends old early b p e lb) (sym (cut p ∙ pick_child v ss last x))
    (by-all gives (λ y. pick_left w bs y x) (λ z. pick_right w bs z x) (λ k. pick v ss k x) (w l) (w r) (v last) (m.held p x) (lasts p))

pub kept_cut : (gives : ℕ → ℕ → ℕ → Type 0) (old early new : List Cell) (a b f l r last : ℕ) (bs : List Both) → Extends old early → Extends early new → a < length old → b < length old
    → ((p : List ℕ) → held_at early a p ≡ held_at early (left_at bs l (get_or p f 0)) p) → ((p : List ℕ) → held_at early b p ≡ held_at early (right_at bs r (get_or p f 0)) p) → l < length early → AreKept gives early bs → IsMerged gives early new l r last → last ≡ l → IsMerged gives old new a b a
kept_cut gives old early new a b f l r last bs e g la lb hl hr ll m lasts same p =
    let x : ℕ = get_or p f 0 in
    let w : ℕ → ℕ = λ k. held_at early k p in
    let to : pick_left w bs (w l) x ≡ held_at old a p = sym (hl p ∙ pick_left_at w bs l x) ∙ held-extends old early a p e la in
    let longer = length-extends old early e in
    let inside : a < length early = omega arith in
    let now : pick_left w bs (w l) x ≡ held_at new a p = to ∙ sym (held-extends old early a p e la) ∙ sym (held-extends early new a p g inside) in
    let stays : held_at new last p ≡ w l = ap (λ k. held_at new k p) same ∙ held-extends early new l p g ll in
    let past : gives (w l) (w r) (w l) = subst (λ k. gives (w l) (w r) k) stays (lasts p) in
    given-same gives (pick_left w bs (w l) x) (pick_right w bs (w r) x) (pick_left w bs (w l) x) (held_at old a p) (held_at old b p) (held_at new a p)
    to (sym (hr p ∙ pick_right_at w bs r x) ∙ held-extends old early b p e lb) now
    (by-all gives (λ y. pick_left w bs y x) (λ z. pick_right w bs z x) (λ k. pick_left w bs k x) (w l) (w r) (w l) (m p x) past)

-- the cell of a cut, or the first cell where all stayed the same
pub whole_merged : (gives : ℕ → ℕ → ℕ → Type 0) (old mid new : List Cell) (a b whole f last : ℕ) (ss : List Step) (same : Bool)
    → ((p : List ℕ) → held_at new whole p ≡ cond same (held_at mid a p) (held_at mid (child_at ss last (get_or p f 0)) p)) → (same ≡ true → IsMerged gives old mid a b a)
    → (((p : List ℕ) → held_at new whole p ≡ held_at mid (child_at ss last (get_or p f 0)) p) → IsMerged gives old new a b whole) → IsMerged gives old new a b whole
whole_merged gives old mid new a b whole f last ss true held kept cut = λ p. subst (λ n. gives (held_at old a p) (held_at old b p) n) (sym (held p)) (kept refl p)
whole_merged gives old mid new a b whole f last ss false held kept cut = cut held

pub no_cut : (cs : List Cell) (a b : ℕ) (f g : Option ℕ) (o : Option ℕ) (P : ℕ → Type 0) → MatchOption o (HaveCut cs a b) P → o ≡ None → a < length cs → b < length cs
    → ((c : Cell) → slice_get cs a ≡ Some c → f ≡ field_of c) → ((c : Cell) → slice_get cs b ≡ Some c → g ≡ field_of c) → f ≡ None → g ≡ None → ⊥
no_cut cs a b f g o P m e la lb fa fb nf ng =
    let h : HaveCut cs a b = subst (λ q. MatchOption q (HaveCut cs a b) P) e m in
    let c = slice_get-get_or cs a (Leaf 0) la in
    let d = slice_get-get_or cs b (Leaf 0) lb in
    h _ _ c d (sym (fa _ c) ∙ nf) (sym (fb _ d) ∙ ng)
