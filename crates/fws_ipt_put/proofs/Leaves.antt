-- What holds of the values of a reduced tree holds of its leaves.
use Rattle.std.proofs.Common.{◌≡◌, ℕ, suc, Bool, true, false, cond, ◌&&◌, not, nat_eq, nat_le, MatchBool, Some, List, [], ◌∷◌, map, arith, refl, ap, ◌∙◌, subst}
use Rattle.std.proofs.lemmas.Bool.{false≢true, and_parts, leb-true}
use Rattle.fws_iv.specs.Ivs.{has}
use Rattle.fws_box.specs.Sides.{IsWithin}
use Rattle.fws_tree.specs.Plain.{Plain, leaf, cut, Kids, none, kid, value_from, value, kid_at, EachKid, Parts, AreMany, IsReducedFrom, IsReduced}
use Rattle.fws_ipt.specs.declared.config.IptChain.{IptChain}
use Rattle.fws_ipt.specs.declared.config.IptTable.{IptTable}
use Rattle.fws_ipt_put_chains.specs.declared.verdict.Verdict.{Verdict}
use Rattle.fws_ipt_put_chains.specs.declared.verdict.Verdict.TheVariants.{Accept, Drop, Mark}
use Rattle.fws_ipt_put_chains.specs.Branches.{HasMarkChains, HaveMarkChains, IsMarkChain}

-- the mark of a verdict, if it is one, has its chain
abbrev pub HasChain : IptTable → ℕ → List IptChain → Verdict → Type 0
HasChain table least chains (Mark v) = IsMarkChain table least chains v
HasChain table least chains Accept = Unit {0}
HasChain table least chains Drop = Unit {0}

abbrev zeros : List ℕ → List ℕ
zeros tops = map (λ top. 0) tops

zeros_within : (tops : List ℕ) → IsWithin tops (zeros tops)
zeros_within [] = tt
zeros_within (top ∷ tops) = (omega arith, zeros_within tops)

leaf_value : (f : ℕ) (a : Verdict) (p : List ℕ) → value_from f (leaf a) p ≡ Some a
leaf_value f a [] = refl
leaf_value f a (x ∷ p) = leaf_value (suc f) a p

module _ (table : IptTable) (least : ℕ) (chains : List IptChain) where
  -- each value that the tree has at a point over these tops has its chain
  abbrev ValuesHave : ℕ → List ℕ → Plain Verdict → Type 0
  ValuesHave f tops t = (p : List ℕ) (a : Verdict) → IsWithin tops p → value_from f t p ≡ Some a → HasChain table least chains a

  leaf_has : (a : Verdict) → HasChain table least chains a → HasMarkChains table least chains (leaf a)
  leaf_has Accept h = tt
  leaf_has Drop h = tt
  leaf_has (Mark v) h = h

  -- the kids of a cut, each by a value that leads to it
  kids_have : (f top : ℕ) (tops : List ℕ) → ((t : Plain Verdict) → IsReducedFrom (suc f) tops t → ValuesHave (suc f) tops t → HasMarkChains table least chains t)
      → (ks : Kids Verdict) (domain : ℕ → Bool) → Parts domain ks → EachKid (IsReducedFrom (suc f) tops) ks
      → ((x : ℕ) → domain x ≡ true → ValuesHave (suc f) tops (kid_at ks x)) → HaveMarkChains table least chains ks
  kids_have f top tops below none domain parts reduced have = tt
  kids_have f top tops below (kid s t ks) domain parts reduced have =
      let first = parts.2.0 in (
        below t reduced.0 (subst (λ u. ValuesHave (suc f) tops u) (ap (λ b. cond b t (kid_at ks first)) parts.2.1) (have first (parts.1 first parts.2.1))),
        kids_have f top tops below ks (λ x. domain x && not (has s x)) parts.4 reduced.1 later,
      ) where
        later : (x : ℕ) → (domain x && not (has s x)) ≡ true → ValuesHave (suc f) tops (kid_at ks x)
        later x inside =
            let both = and_parts (domain x) (not (has s x)) inside in
            subst (λ u. ValuesHave (suc f) tops u) (ap (λ b. cond b t (kid_at ks x)) (off (has s x) both.1)) (have x both.0) where
              off : (b : Bool) → not b ≡ true → b ≡ false
              off true h = absurd (false≢true h)
              off false h = refl

  by_field : (f g top : ℕ) (tops : List ℕ) (ks : Kids Verdict) → ((t : Plain Verdict) → IsReducedFrom (suc f) tops t → ValuesHave (suc f) tops t → HasMarkChains table least chains t)
      → ValuesHave f (top ∷ tops) (cut g ks) → (here : Bool) → nat_eq g f ≡ here
      → MatchBool here (AreMany ks × Parts (λ x. nat_le x top) ks × EachKid (IsReducedFrom (suc f) tops) ks) (IsReducedFrom (suc f) tops (cut g ks))
      → HasMarkChains table least chains (cut g ks)
  by_field f g top tops ks below have true here is =
      kids_have f top tops below ks (λ x. nat_le x top) is.1 is.2
      (λ x inside p a within value_is. have (x ∷ p) a (leb-true x top inside, within)
      (ap (λ b. value_from (suc f) (cond b (kid_at ks x) (cut g ks)) p) here ∙ value_is))
  by_field f g top tops ks below have false here is =
      below (cut g ks) is
      (λ p a within value_is. have (0 ∷ p) a (omega arith, within)
      (ap (λ b. value_from (suc f) (cond b (kid_at ks 0) (cut g ks)) p) here ∙ value_is))

  leaves_have : (tops : List ℕ) (f : ℕ) (t : Plain Verdict) → IsReducedFrom f tops t → ValuesHave f tops t → HasMarkChains table least chains t
  leaves_have tops f (leaf a) reduced have = leaf_has a (have (zeros tops) a (zeros_within tops) (leaf_value f a (zeros tops)))
  leaves_have [] f (cut g ks) reduced have = absurd reduced
  leaves_have (top ∷ tops) f (cut g ks) reduced have = by_field f g top tops ks (leaves_have tops (suc f)) have (nat_eq g f) refl reduced

  pub has_chains : (tops : List ℕ) (t : Plain Verdict) → IsReduced tops t → ((p : List ℕ) (a : Verdict) → IsWithin tops p → value t p ≡ Some a → HasChain table least chains a)
      → HasMarkChains table least chains t
  has_chains tops t reduced have = leaves_have tops 0 t reduced have
