-- Labels of points by marks of boxes.
use Rattle.std.proofs.Common.{◌≡◌, ℕ, ◌+◌, Bool, true, false, cond, nat_eq, List, [], ◌∷◌, ◌++◌, refl, sym, ◌∙◌, ap, arith, zero-add, ◌&&◌}
use Rattle.std.proofs.lemmas.Bool.{false≢true}
use Rattle.std.proofs.lemmas.Bool.Decides.{nat_tests}
use Rattle.fws_box.specs.declared.pbox.PBox.{PBox}
use Rattle.fws_box.specs.Boxes.{box_hits, sides_of}
use Rattle.fws_box.specs.Sides.{sides_have}
use Rattle.fws_net.specs.declared.view.View.{View}
use Rattle.fws_net.specs.Conditions.{holds}
use Rattle.fws_flat.specs.declared.code.Ins.{Ins}
use Rattle.fws_tree.specs.declared.mark.Mark.{Mark}
use Rattle.fws_tree.specs.Marks.{mark_at}
use Rattle.fws_tree.specs.Marks as marks
use Rattle.fws_exec.specs.Goings.{label_of}
use Rattle.fws_exec.specs.Runs.{boxed, numbered, picked}

-- a mark behind others
pub mark_behind : (ms : List Mark) (m : Mark) (rest : ℕ) (p : List ℕ) → mark_at (ms ++ m ∷ []) rest p ≡ mark_at ms (cond (sides_have (marks.sides_of m) p) m.label rest) p
mark_behind [] m rest p = refl
mark_behind (x ∷ ms) m rest p = ap (λ k. cond (sides_have (marks.sides_of x) p) x.label k) (mark_behind ms m rest p)

-- the label by one more box
pub boxed_cons : (b : PBox) (bs : List PBox) (label rest : ℕ) (p : List ℕ) → boxed (b ∷ bs) label rest p ≡ cond (sides_have (sides_of b) p) label (boxed bs label rest p)
boxed_cons b bs label rest p = hits (sides_have (sides_of b) p) (box_hits bs p)
  where
    hits : (h : Bool) (n : ℕ) → cond (nat_eq (cond h 1 0 + n) 0) rest label ≡ cond h label (cond (nat_eq n 0) rest label)
    hits true n = let some : nat_eq (1 + n) 0 ≡ false = grind (arith, nat_tests) in ap (λ b. cond b rest label) some
    hits false n = ap (λ k. cond (nat_eq k 0) rest label) (zero-add n)

-- one more mark, for the first of the boxes that are left
pub boxed_step : (ms new : List Mark) (m : Mark) (b : PBox) (bs left : List PBox) (label rest : ℕ) (p : List ℕ) → new ≡ ms ++ m ∷ [] → marks.sides_of m ≡ sides_of b → m.label ≡ label → left ≡ b ∷ bs
    → mark_at new (boxed bs label rest p) p ≡ mark_at ms (boxed left label rest p) p
boxed_step ms new m b bs left label rest p n s l e =
    ap (λ ks. mark_at ks (boxed bs label rest p) p) n
    ∙ mark_behind ms m (boxed bs label rest p) p
    ∙ ap (λ c. mark_at ms (cond (sides_have c p) m.label (boxed bs label rest p)) p) s
    ∙ ap (λ k. mark_at ms (cond (sides_have (sides_of b) p) k (boxed bs label rest p)) p) l
    ∙ sym (ap (λ k. mark_at ms k p) (ap (λ all. boxed all label rest p) e ∙ boxed_cons b bs label rest p))

-- the label by boxes that hold a point just where a test holds
pub boxed_by : (boxes : List PBox) (label rest : ℕ) (p : List ℕ) (h : Bool) → box_hits boxes p ≡ cond h 1 0 → boxed boxes label rest p ≡ cond h label rest
boxed_by boxes label rest p h e = ap (λ n. cond (nat_eq n 0) rest label) e ∙ by h
  where
    by : (h : Bool) → cond (nat_eq (cond h 1 0) 0) rest label ≡ cond h label rest
    by true = refl
    by false = refl

-- where its condition fails, an instruction is passed over
pub picked_past : (place : ℕ) (v : View) (ins : Ins) (code left : List Ins) → left ≡ ins ∷ code → holds ins.cond v ≡ false → picked place v left ≡ picked place v code
picked_past place v ins code left e fails = ap (λ xs. picked place v xs) e ∙ ap (λ h. cond h (label_of place ins.act) (picked place v code)) fails

pub numbered_past : (n : ℕ) (v : View) (ins : Ins) (code left : List Ins) → left ≡ ins ∷ code → holds ins.cond v ≡ false → numbered n v left ≡ numbered (n + 1) v code
numbered_past n v ins code left e fails = ap (λ xs. numbered n v xs) e ∙ ap (λ h. cond h n (numbered (n + 1) v code)) fails

-- one more instruction, the first of those that are left, where an area has the point; where its condition fails, those behind it may be
-- passed over up to the rest
pub picked_step : (b : Bool) (place : ℕ) (v : View) (ins : Ins) (code rest left : List Ins) → left ≡ ins ∷ code → (holds ins.cond v ≡ false → picked place v code ≡ picked place v rest)
    → cond (b && holds ins.cond v) (label_of place ins.act) (cond b (picked place v rest) 0) ≡ cond b (picked place v left) 0
picked_step b place v ins code rest left e same = inside b (holds ins.cond v) same ∙ sym (ap (λ xs. cond b (picked place v xs) 0) e)
  where
    inside : (b h : Bool) → (h ≡ false → picked place v code ≡ picked place v rest)
        → cond (b && h) (label_of place ins.act) (cond b (picked place v rest) 0) ≡ cond b (cond h (label_of place ins.act) (picked place v code)) 0
    inside true true s = refl
    inside true false s = sym (s refl)
    inside false true s = refl
    inside false false s = refl

-- the same by the numbers of instructions
pub numbered_step : (b : Bool) (n more : ℕ) (v : View) (ins : Ins) (code rest left : List Ins) → left ≡ ins ∷ code → (holds ins.cond v ≡ false → numbered (n + 1) v code ≡ numbered more v rest)
    → cond (b && holds ins.cond v) n (cond b (numbered more v rest) 0) ≡ cond b (numbered n v left) 0
numbered_step b n more v ins code rest left e same = inside b (holds ins.cond v) same ∙ sym (ap (λ xs. cond b (numbered n v xs) 0) e)
  where
    inside : (b h : Bool) → (h ≡ false → numbered (n + 1) v code ≡ numbered more v rest)
        → cond (b && h) n (cond b (numbered more v rest) 0) ≡ cond b (cond h n (numbered (n + 1) v code)) 0
    inside true true s = refl
    inside true false s = sym (s refl)
    inside false true s = refl
    inside false false s = refl

-- a label where an area has the point
pub label_inside : (b : Bool) (k rest : ℕ) → b ≡ true → cond b k rest ≡ k
label_inside true k rest e = refl
label_inside false k rest e = absurd (false≢true e)

pub same_both : (b : Bool) (k : ℕ) → cond b k k ≡ k
same_both true k = refl
same_both false k = refl

-- no label where the condition fails
pub never_label : (a h : Bool) (k rest : ℕ) → h ≡ false → cond (a && h) k rest ≡ rest
never_label true h k rest e = ap (λ b. cond b k rest) e
never_label false h k rest e = refl
