-- How plain trees are told apart where a contract stores them: each as a tree of numbers, one to one.
use Rattle.std.specs.Prelude.{◌≡◌, ℕ, List, refl}
use Rattle.std.specs.Coded.{Coded, code_by, coded×, coded_ℕ, coded_list}
use base.Stored.{Gv, gnil, gnum, gcons, num}
use mathlib.Core.Path.{ap, sym}
use native.Mathlib.Nat.{suc-ne-zero}
use Rattle.fws_iv.specs.declared.iv.Iv.{Iv}
use Rattle.fws_tree.specs.Plain.{Plain, leaf, cut, Kids, none, kid}

-- an interval is stored as its two ends
abbrev pub coded_iv : Coded Iv
coded_iv = code_by (ℕ × ℕ) (coded× coded_ℕ coded_ℕ) (λ i. (i.lo, i.hi)) (λ p. record { lo = p.0; hi = p.1 }) (λ _. refl)

-- a set of a field's values is stored as the list of its intervals
abbrev pub coded_set : Coded (List Iv)
coded_set = coded_list coded_iv

abbrev first : Gv → Gv
first gnil = gnil
first (gnum n) = gnil
first (gcons a b) = a

abbrev rest : Gv → Gv
rest gnil = gnil
rest (gnum n) = gnil
rest (gcons a b) = b

-- a leaf is stored behind 0 and a cut behind 1; no kid as 0
abbrev mutual
  pub code_of_plain : {L : Type 0} → Coded L → Plain L → Gv
  code_of_plain l (leaf a) = gcons (gnum 0) (l.code a)
  code_of_plain l (cut f ks) = gcons (gnum 1) (gcons (gnum f) (code_of_kids l ks))

  pub code_of_kids : {L : Type 0} → Coded L → Kids L → Gv
  code_of_kids l none = gcons (gnum 0) gnil
  code_of_kids l (kid s t ks) = gcons (gnum 1) (gcons (coded_set.code s) (gcons (code_of_plain l t) (code_of_kids l ks)))

zero_or_one : {P : Type 0} → ◌≡◌ {A = ℕ} 0 1 → P
zero_or_one p = absurd (suc-ne-zero 0 (sym p))

mutual
  pub plain_inj : {L : Type 0} (l : Coded L) (t u : Plain L) → code_of_plain l t ≡ code_of_plain l u → t ≡ u
  plain_inj l (leaf a) (leaf b) p = ap leaf (l.inj a b (ap rest p))
  plain_inj l (leaf a) (cut g js) p = zero_or_one (ap (λ v. num (first v)) p)
  plain_inj l (cut f ks) (leaf b) p = zero_or_one (sym (ap (λ v. num (first v)) p))
  plain_inj l (cut f ks) (cut g js) p = λ i. cut (ap (λ v. num (first (rest v))) p i) (kids_inj l ks js (ap (λ v. rest (rest v)) p) i)

  pub kids_inj : {L : Type 0} (l : Coded L) (ks js : Kids L) → code_of_kids l ks ≡ code_of_kids l js → ks ≡ js
  kids_inj l none none p = refl
  kids_inj l none (kid r u js) p = zero_or_one (ap (λ v. num (first v)) p)
  kids_inj l (kid s t ks) none p = zero_or_one (sym (ap (λ v. num (first v)) p))
  kids_inj l (kid s t ks) (kid r u js) p = λ i. kid (coded_set.inj s r (ap (λ v. first (rest v)) p) i)
      (plain_inj l t u (ap (λ v. first (rest (rest v))) p) i) (kids_inj l ks js (ap (λ v. rest (rest (rest v))) p) i)

-- the code of plain trees, after that of their leaves
abbrev pub coded_plain : {L : Type 0} → Coded L → Coded (Plain L)
coded_plain l = record { code = code_of_plain l; inj = plain_inj l }
