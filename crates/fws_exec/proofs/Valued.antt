-- Sheets with the same classes at the same points, and the first sheet.
use Rattle.std.proofs.Common.{◌≡◌, ℕ, false, Some, List, [], ◌∷◌, slice_get, sym, ap, subst}
use Rattle.fws_box.specs.Sides.{IsWithin}
use Rattle.fws_exec.specs.declared.hull.Hull.{Hull}
use Rattle.fws_exec.specs.declared.roll.Roll.{Roll}
use Rattle.fws_exec.specs.declared.sheet.Sheet.{Sheet}
use Rattle.fws_exec.specs.declared.spot.Class.{Class}
use Rattle.fws_exec.specs.Classes.{is_unused}
use Rattle.fws_exec.specs.Hulls.{HasAt, HasPoint}
use Rattle.fws_exec.specs.Sheets.{tops_in, class_at, IsSheet, IsUsed}

-- a sheet with one class, which has all points, is one
pub whole_sheet : (s : Sheet) (class : Class) (hull : Hull) → is_unused class.spot ≡ false → s.roll.classes.items ≡ class ∷ [] → s.hulls.items ≡ hull ∷ [] → ((p : List ℕ) → class_at s p ≡ 0) → ((p : List ℕ) → IsWithin (tops_in s) p → HasPoint hull p) → IsSheet s
whole_sheet s class hull used classes hulls first inside = record {
  used = λ p w. (class, (subst (λ n. slice_get s.roll.classes.items n ≡ Some class) (sym (first p)) (ap (λ cs. slice_get cs 0) classes), used));
  hulled = λ p w. (hull, subst (λ n. slice_get s.hulls.items n ≡ Some hull) (sym (first p)) (ap (λ hs. slice_get hs 0) hulls), inside p w);
}

-- a sheet with the same classes and hulls at the same points is one
pub valued_sheet : (old new : Sheet) → tops_in new ≡ tops_in old → ((p : List ℕ) → class_at new p ≡ class_at old p) → new.roll ≡ old.roll → new.hulls ≡ old.hulls → IsSheet old → IsSheet new
valued_sheet old new tops same roll hulls sheet = record {
  used = λ p w. subst (λ (r : Roll). (c : Class) × IsUsed r.classes.items (class_at new p) c) (sym roll) (subst (λ n. (c : Class) × IsUsed old.roll.classes.items n c) (sym (same p)) (sheet.used p (subst (λ ts. IsWithin ts p) tops w)));
  hulled = λ p w. subst (λ hs. HasAt hs (class_at new p) p) (sym (ap (λ v. v.items) hulls)) (subst (λ n. HasAt old.hulls.items n p) (sym (same p)) (sheet.hulled p (subst (λ ts. IsWithin ts p) tops w)));
}
