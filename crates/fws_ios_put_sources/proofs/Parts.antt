-- Sets from which fields are left out.
use Rattle.std.proofs.Common.{◌≡◌, ℕ, Bool, true, false, cond, None, Some, IfSome, List, refl, sym, ◌∙◌, ap, subst, IsTrue}
use Rattle.std.specs.Prelude.{◌↔◌, Result, Ok, Err, IfOk}
use Rattle.fws_box.specs.Sides.{IsWithin}
use Rattle.fws_ios_put_entries.specs.Seen.{IsListed, LookSame}
use Rattle.fws_ios_put_sources.specs.declared.parted.Parted.{Parted}
use Rattle.fws_ios_put_sources.specs.Parting.{keeps_look, AreApart, AreWider, IsParted, IsTotal, IsWider}
use Rattle.fws_tree.specs.Changed.{IsTrueSomewhere}
use Rattle.fws_tree.specs.Plain.{Plain, value}
use Rattle.fws_ios_put_sources.proofs.Looks.{listed_of, look_mixed}
use Rattle.fws_ios_put_sources.proofs.Mixed.{agree_mixed, mixed_within, with_fields}
use Rattle.fws_tree.specs.Changed.{is_free}

-- what a projection says
abbrev pub IsProjected : List ℕ → ℕ → Plain Bool → Plain Bool → Type 0
IsProjected tops fields t u = (x : List ℕ) → IsWithin tops x → (b : Bool) × (value u x ≡ Some b) × (IsTrue b ↔ IsTrueSomewhere tops fields t x)

left_wider : (tops : List ℕ) (fields : ℕ) (t u : Plain Bool) → IsProjected tops fields t u → IsWider tops t u
left_wider tops fields t u projected x w e = let s = projected x w in s.1 ∙ ap Some (s.2.1 (x, w, (λ f fixed. refl), e))

left_listed : (tops : List ℕ) (fields : ℕ) (t u : Plain Bool) → IsProjected tops fields t u → keeps_look fields ≡ true → IsListed tops (value t) → IsListed tops (value u)
left_listed tops fields t u projected keeps listed = listed_of tops u (λ x. IsTrueSomewhere tops fields t x) projected moved
  where
    moved : (x y : List ℕ) → IsWithin tops x → IsWithin tops y → LookSame x y → IsTrueSomewhere tops fields t x → IsTrueSomewhere tops fields t y
    moved x y w v look s =
        let z : List ℕ = with_fields fields s.0 y in
        let inside : IsWithin tops z = mixed_within (λ k. is_free fields k) tops s.0 y s.1 v in (
          z,
          inside,
          agree_mixed fields tops s.0 y s.1 v,
          sym (listed s.0 z s.1 inside (look_mixed fields tops x y s.0 keeps s.1 v look s.2)) ∙ s.3,
        )

-- two sets from which fields are left out
pub left_parted : (fields : ℕ) (old new : Parted) → new.permitted.0 ≡ old.permitted.0 → new.denied.0 ≡ old.denied.0
    → IsProjected old.permitted.0 fields old.permitted.1 new.permitted.1 → AreApart new.permitted.0 new.permitted.1 new.denied.1
    → keeps_look fields ≡ true → IsParted old → IsParted new
left_parted fields old new permitted denied projected apart keeps parted = record {
  tops = denied ∙ parted.tops ∙ sym permitted;
  total = subst (λ ts. IsTotal ts new.permitted.1) (sym permitted) (λ x w. let s = projected x w in (s.0, s.1));
  apart = apart;
  listed = subst (λ ts. IsListed ts (value new.permitted.1)) (sym permitted)
      (left_listed old.permitted.0 fields old.permitted.1 new.permitted.1 projected keeps parted.listed);
}

pub left_are_wider : (fields : ℕ) (old new : Parted) → new.permitted.0 ≡ old.permitted.0 → IsParted old
    → IsProjected old.permitted.0 fields old.permitted.1 new.permitted.1 → IsProjected old.denied.0 fields old.denied.1 new.denied.1 → AreWider old new
left_are_wider fields old new permitted parted first second = record {
  tops = permitted;
  permitted = left_wider old.permitted.0 fields old.permitted.1 new.permitted.1 first;
  denied = subst (λ ts. IsWider ts old.denied.1 new.denied.1) parted.tops (left_wider old.denied.0 fields old.denied.1 new.denied.1 second);
}

pub as_wide : (s : Parted) → AreWider s s
as_wide s = record { tops = refl; permitted = λ x w e. e; denied = λ x w e. e }

pub wider_still : (a b c : Parted) → AreWider a b → AreWider b c → AreWider a c
wider_still a b c ab bc = record {
  tops = bc.tops ∙ ab.tops;
  permitted = λ x w e. bc.permitted x (subst (λ ts. IsWithin ts x) (sym ab.tops) w) (ab.permitted x w e);
  denied = λ x w e. bc.denied x (subst (λ ts. IsWithin ts x) (sym ab.tops) w) (ab.denied x w e);
}

-- what is there under a test
pub some_if : {T : Type 0} (b : Bool) (t : T) (P : T → Type 0) → (b ≡ true → P t) → IfSome (cond b (Some t) None) P
some_if true t P h = h refl
some_if false t P h = tt

-- two facts of each result as one
pub both_ok : {T E : Type 0} (r : Result T E) (P Q R : T → Type 0) → ((t : T) → P t → Q t → R t) → IfOk r P → IfOk r Q → IfOk r R
both_ok (Ok t) P Q R joined p q = joined t p q
both_ok (Err e) P Q R joined p q = tt
