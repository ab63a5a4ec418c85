-- The sets of boxes that are asked of the packets of a class.
use Rattle.std.proofs.Common.{◌≡◌, ◌≢◌, ℕ, ◌+◌, ◌<◌, ◌≤◌, Bool, true, false, ◌&&◌, List, [], length, inl, inr, refl, sym, ◌∙◌, ap, subst, arith, get_or-set_other, get_or-set_same, length-set}
use Rattle.std.proofs.lemmas.Bool.{and_from, cases_eq, false≢true, lt-ltb}
use Rattle.std.proofs.lemmas.Bool.Decides.{nat_tests}
use Rattle.std.specs.Prelude.{nat_lt, slice_set}
use Rattle.fws_iv.specs.declared.iv.Iv.{Iv}
use Rattle.fws_ios_put_cover.specs.declared.class.Class.{Class}
use Rattle.fws_ios_put_cover.specs.Boxes.{part}
use Rattle.fws_ios_put_cover.specs.Classes.{keeps, IsPartBefore}

-- a field before the next one that isn't this one is before this one
before : (g f : ℕ) (b : Bool) → g ≢ f → (nat_lt g (f + 1) && b) ≡ false → (nat_lt g f && b) ≡ false
before g f b ne e = ap (λ a. a && b) (sym (same_test g f ne)) ∙ e
  where
    same_test : (g f : ℕ) → g ≢ f → nat_lt g (f + 1) ≡ nat_lt g f
    same_test g f ne = grind (arith, nat_tests)

-- a further set is kept
pub part_more : (class : Class) (tops : List ℕ) (sides : List (List Iv)) (protos : List Iv) (f : ℕ) (old new : List (List Iv)) → 2 ≤ f → f < 8 → keeps class f ≡ true
    → new ≡ slice_set old f (part sides f) → IsPartBefore class tops sides protos f old → IsPartBefore class tops sides protos (f + 1) new
part_more class tops sides protos f old new low high yes_it is h =
    let twelve : length old ≡ 12 = h.twelve in
    let within : f < length old = omega (arith, high, twelve) in
    let other : (g : ℕ) → g ≢ f → part new g ≡ part old g = λ g ne. ap (λ l. part l g) is ∙ get_or-set_other old f g (part sides f) [] ne in
    let same : part new f ≡ part sides f = ap (λ l. part l f) is ∙ get_or-set_same old f (part sides f) [] within in record {
      twelve = ap length is ∙ length-set old f (part sides f) ∙ h.twelve;
      protos_are = other 1 (λ e. absurd (omega (arith, e, low))) ∙ h.protos_are;
      kept = λ g low less keep. elim (cases_eq g f) [
        | inl e ↦ subst (λ k. part new k ≡ part sides k) (sym e) same
        | inr ne ↦ other g ne ∙ h.kept g low (omega (arith, less, ne)) keep
      ];
      whole_are = λ g less one no_keep. elim (cases_eq g f) [
        | inl e ↦ absurd (false≢true (sym no_keep ∙ and_from (nat_lt g (f + 1)) (keeps class g) (lt-ltb g (f + 1) (omega (arith, e))) (subst (λ k. keeps class k ≡ true) (sym e) yes_it)))
        | inr ne ↦ other g ne ∙ h.whole_are g less one (before g f (keeps class g) ne no_keep)
      ];
    }

-- a set isn't kept
pub part_same : (class : Class) (tops : List ℕ) (sides : List (List Iv)) (protos : List Iv) (f : ℕ) (old new : List (List Iv)) → keeps class f ≡ false → new ≡ old
    → IsPartBefore class tops sides protos f old → IsPartBefore class tops sides protos (f + 1) new
part_same class tops sides protos f old new no_keep is h = subst (λ l. IsPartBefore class tops sides protos (f + 1) l) (sym is) (record {
  twelve = h.twelve;
  protos_are = h.protos_are;
  kept = λ g low less keep. elim (cases_eq g f) [
    | inl e ↦ absurd (false≢true (sym no_keep ∙ subst (λ k. keeps class k ≡ true) e keep))
    | inr ne ↦ h.kept g low (omega (arith, less, ne)) keep
  ];
  whole_are = λ g less one none. elim (cases_eq g f) [
    | inl e ↦ h.whole_are g less one (ap (λ b. nat_lt g f && b) (subst (λ k. keeps class k ≡ false) (sym e) no_keep) ∙ no_more (nat_lt g f))
    | inr ne ↦ h.whole_are g less one (before g f (keeps class g) ne none)
  ];
})
  where
    no_more : (a : Bool) → (a && false) ≡ false
    no_more true = refl
    no_more false = refl
