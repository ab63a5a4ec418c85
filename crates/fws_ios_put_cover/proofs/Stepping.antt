-- Paths that are narrowed field by field.
use Rattle.std.proofs.Common.{◌≡◌, ℕ, suc, ◌≤◌, Bool, true, false, ◌&&◌, ◌||◌, Some, List, [], ◌∷◌, ◌++◌, ◌⊎◌, get_or, inl, inr, refl, sym, ◌∙◌, ap, subst, arith}
use Rattle.std.proofs.lemmas.Bool.{and_from, and_parts, eqb-true, false≢true, le-leb}
use Rattle.std.proofs.lemmas.Bool.Decides.{nat_tests}
use Rattle.std.proofs.lemmas.List.Elements.{All-append, All-cons, All-head, All-nil, All-tail, All-weaker}
use Rattle.std.proofs.lemmas.List.Folds.{list_any-append}
use Rattle.std.specs.Prelude.{nat_eq, nat_le, All}
use Rattle.fws_iv.specs.declared.iv.Iv.{Iv}
use Rattle.fws_iv.specs.Ivs.{has}
use Rattle.fws_ios_put_entries.specs.declared.path.Path.{Path}
use Rattle.fws_ios_put_entries.specs.declared.side.Side.{Side}
use Rattle.fws_ios_put_entries.specs.declared.side.Side.TheVariants.{Proto, Src, Sport, Dst, Dport, Icmp}
use Rattle.fws_ios_put_entries.specs.Narrowing.{AreNarrowed, AsksMember, AsksNoDetail}
use Rattle.fws_ios_put_entries.specs.Paths.{asks, hits, number_of, path_has, some_path_has, top_of}
use Rattle.fws_ios_put_cover.specs.Boxes.{is_whole}
use Rattle.fws_ios_put_cover.specs.Steps.{AreAllNarrowed, AreStepped, IsOpenPath, IsTcpAlone}

-- what all of two lists have
pub both_parts : {A : Type 0} → (P : A → Type 0) (xs ys : List A) → All P (xs ++ ys) → All P xs × All P ys
both_parts P [] ys h = (All-nil P, h)
both_parts P (x ∷ xs) ys h =
    let rest = both_parts P xs ys (All-tail P x (xs ++ ys) h) in (All-cons P x xs (All-head P x (xs ++ ys) h) rest.0, rest.1)

-- what is known for the narrowing of a path
pub open_detail : (side : Side) (path : Path) → IsOpenPath false (number_of side) path → side ≡ Proto → AsksNoDetail path
open_detail side path h e =
    let free : (other : Side) → 1 ≤ number_of other → asks other path ≡ false = λ other le. h.free other (subst (λ k. number_of k ≤ number_of other) (sym e) le) in
    record { sport = free Sport (lit_le 1 5 refl); dport = free Dport (lit_le 1 3 refl); icmp = free Icmp (lit_le 1 7 refl) }
  where
    lit_le : (a b : ℕ) → nat_le a b ≡ true → a ≤ b
    lit_le a b e = grind (arith, nat_tests)

first_field : (side : Side) → 1 ≤ number_of side
first_field Proto = omega arith
first_field Src = omega arith
first_field Sport = omega arith
first_field Dst = omega arith
first_field Dport = omega arith
first_field Icmp = omega arith

-- behind the protocol come fields from 2 on
later_field : (side : Side) → 2 ≤ suc (number_of side)
later_field side = let le : 1 ≤ number_of side = first_field side in omega (arith, le)

proto_or_later : (side : Side) → (side ≡ Proto) ⊎ (2 ≤ number_of side)
proto_or_later Proto = inl refl
proto_or_later Src = inr (omega arith)
proto_or_later Sport = inr (omega arith)
proto_or_later Dst = inr (omega arith)
proto_or_later Dport = inr (omega arith)
proto_or_later Icmp = inr (omega arith)

apart : (a b : ℕ) → suc a ≤ b → nat_eq b a ≡ false
apart a b le = grind (arith, nat_tests)

-- the paths of one
opened : (established : Bool) (side : Side) (set : List Iv) (path : Path) (further : List Path) → AreNarrowed path side set further → IsOpenPath established (number_of side) path
    → IsTcpAlone established side set → All (IsOpenPath established (suc (number_of side))) further
opened established side set path further n o alone k d lt = record {
  writable = n.writable k d lt;
  free = λ other le.
      let first : 1 ≤ number_of side = first_field side in
      n.free other (o.free other (omega (arith, le))) (apart (number_of side) (number_of other) le) (apart 1 (number_of other) (omega (arith, first, le))) k d lt;
  tcp = λ e le. elim (proto_or_later side) [
    | inl is ↦ (let m : AsksMember set (get_or further k d) = n.told is k d lt in m.asked ∙ ap Some (alone e is m.member m.has_it))
    | inr late ↦ n.kept 6 (o.tcp e late) k d lt
  ];
}

pub none_narrowed : (side : Side) (set : List Iv) → AreAllNarrowed side set [] []
none_narrowed side set = record {
  same = λ p fine. refl;
  narrowed = λ established h alone. All-nil (IsOpenPath established (suc (number_of side)));
}

pub narrowed_more : (side : Side) (set : List Iv) (old : List Path) (path : Path) (further next new : List Path) → new ≡ next ++ further → AreNarrowed path side set further → AreAllNarrowed side set old next
    → AreAllNarrowed side set (old ++ path ∷ []) new
narrowed_more side set old path further next new is n h = subst (λ l. AreAllNarrowed side set (old ++ path ∷ []) l) (sym is) (record {
  same = λ p fine.
      list_any-append (λ (x : Path). path_has x p) next further ∙ ap (λ b. b || some_path_has further p) (h.same p fine)
      ∙ ap (λ b. (some_path_has old p && hits side set p) || b) (n.same p fine) ∙ joined (some_path_has old p) (path_has path p) (hits side set p)
      ∙ ap (λ b. b && hits side set p) (sym (list_any-append (λ (x : Path). path_has x p) old (path ∷ [])));
  narrowed = λ established all alone.
      let parts = both_parts (IsOpenPath established (number_of side)) old (path ∷ []) all in
      All-append (IsOpenPath established (suc (number_of side))) next further (h.narrowed established parts.0 alone)
      (opened established side set path further n (All-head (IsOpenPath established (number_of side)) path [] parts.1) alone);
})
  where
    joined : (a b c : Bool) → ((a && c) || (b && c)) ≡ ((a || (b || false)) && c)
    joined true b true = refl
    joined true true false = refl
    joined true false false = refl
    joined false true c = refl
    joined false false c = refl

-- nothing is asked of a field of which the box has all
pub whole_stepped : (side : Side) (set : List Iv) (paths : List Path) → is_whole (top_of side) set ≡ true → AreStepped side set paths paths
whole_stepped side set paths all = record {
  same = λ p fine. sym (ap (λ b. some_path_has paths p && (b || hits side set p)) all ∙ and_true (some_path_has paths p));
  stepped = λ established opens alone. All-weaker (IsOpenPath established (number_of side)) (IsOpenPath established (suc (number_of side)))
      (λ path o. record {
        writable = o.writable;
        free = λ other le. o.free other (omega (arith, le));
        tcp = λ e le. elim (proto_or_later side) [
          | inl is ↦ absurd (no_zero 0 refl (alone e is 0 (whole_zero (top_of side) set all)))
          | inr late ↦ o.tcp e late
        ];
      }) paths opens;
}
  where
    and_true : (a : Bool) → (a && true) ≡ a
    and_true true = refl
    and_true false = refl

    no_zero : (a : ℕ) → a ≡ 0 → a ≡ 6 → ⊥
    no_zero a z e = absurd (omega (arith, z, e))

    whole_zero : (top : ℕ) (set : List Iv) → is_whole top set ≡ true → has set 0 ≡ true
    whole_zero top [] h = absurd (false≢true h)
    whole_zero top (iv ∷ []) h =
        let lo : iv.lo ≡ 0 = eqb-true iv.lo 0 (and_parts (nat_eq iv.lo 0) (nat_eq iv.hi top) h).0 in
        ap (λ b. b || false) (and_from (nat_le iv.lo 0) (nat_le 0 iv.hi) (le-leb iv.lo 0 (omega (arith, lo))) (le-leb 0 iv.hi (omega arith)))
    whole_zero top (iv ∷ other ∷ set) h = absurd (false≢true h)

pub narrowed_stepped : (side : Side) (set : List Iv) (old new : List Path) → is_whole (top_of side) set ≡ false → AreAllNarrowed side set old new → AreStepped side set old new
narrowed_stepped side set old new part h = record {
  same = λ p fine. h.same p fine ∙ sym (ap (λ b. some_path_has old p && (b || hits side set p)) part);
  stepped = h.narrowed;
}
