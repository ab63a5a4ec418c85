-- Trees at points with one entry and some flags.
use Rattle.std.proofs.Common.{◌≡◌, ℕ, zero, suc, ◌+◌, ◌-◌, ◌^◌, ◌<◌, ◌≤◌, Bool, true, false, ◌&&◌, ◌||◌, cond, nat_eq, Option, Some, None, List, [], ◌∷◌, refl, sym, ap, ◌∙◌, subst, arith, length, get_or, IsTrue}
use Rattle.std.proofs.lemmas.Bool.{and_from, and_parts, eqb-true, false≢true, false_from_ne_true, le-leb, leb-true, or_left}
use Rattle.std.proofs.Math.Bool.{and-true}
use Rattle.std.proofs.lemmas.List.FromFn.{fill_by_all}
use Rattle.std.specs.Prelude.{◌↔◌, nat_le, slice_index, slice_set, unwrap_or}
use Rattle.fws_box.specs.Sides.{IsWithin, sides_have, whole_sides}
use Rattle.fws_iv.specs.declared.iv.Iv.{Iv}
use Rattle.fws_iv.specs.Ivs.{has}
use Rattle.fws_net.specs.declared.site.Site.{Site}
use Rattle.fws_net.specs.Fates.{has_ports}
use Rattle.fws_net.specs.Points.{packet_of, tops_of}
use Rattle.fws_tree.specs.Changed.{Agree, IsTrueSomewhere}
use Rattle.fws_tree.specs.Plain.{Plain, value}
use Rattle.fws_tree_seen.specs.declared.seen.Seen.TheVariants.{Entered}
use Rattle.fws_tree_seen.specs.Shown.{IsTold}
use Rattle.fws_ios_put_entries.specs.Seen.{IsListed}
use Rattle.fws_place.specs.Meaning.{point_of, rec_of}
use Rattle.fws_ios_put.specs.Choices.{IsNowhere, framed, truth}

-- Points

pub within_length : (tops p : List ℕ) → IsWithin tops p → length p ≡ length tops
within_length [] [] w = refl
within_length [] (x ∷ p) w = absurd w
within_length (top ∷ tops) [] w = absurd w
within_length (top ∷ tops) (x ∷ p) w = ap suc (within_length tops p w.1)

-- twelve values are those of a packet and ends
pub twelve_values : (q : List ℕ) → length q ≡ 12 → point_of (packet_of q) (rec_of q) ≡ q
twelve_values q n = sym (fill_by_all (λ k. get_or q k 0) q 12 0 n (λ k lt. refl))

pub point_back : (site : Site) (q : List ℕ) → IsWithin (tops_of site) q → point_of (packet_of q) (rec_of q) ≡ q
point_back site q w = twelve_values q (within_length (tops_of site) q w)

-- a point that agrees with another one in all but the entry and flags
framed_is : (entry flags : ℕ) (x q : List ℕ) → length q ≡ 12 → Agree 65 x q → get_or q 0 0 ≡ entry → get_or q 6 0 ≡ flags → framed entry flags x ≡ q
framed_is entry flags x q n same e0 e6 =
    let e1 : get_or x 1 0 ≡ get_or q 1 0 = same 1 refl in
    let e2 : get_or x 2 0 ≡ get_or q 2 0 = same 2 refl in
    let e3 : get_or x 3 0 ≡ get_or q 3 0 = same 3 refl in
    let e4 : get_or x 4 0 ≡ get_or q 4 0 = same 4 refl in
    let e5 : get_or x 5 0 ≡ get_or q 5 0 = same 5 refl in
    let e7 : get_or x 7 0 ≡ get_or q 7 0 = same 7 refl in
    let e8 : get_or x 8 0 ≡ get_or q 8 0 = same 8 refl in
    let e9 : get_or x 9 0 ≡ get_or q 9 0 = same 9 refl in
    let e10 : get_or x 10 0 ≡ get_or q 10 0 = same 10 refl in
    let e11 : get_or x 11 0 ≡ get_or q 11 0 = same 11 refl in
    (cc) ∙ twelve_values q n

agree_framed : (entry flags : ℕ) (x : List ℕ) → Agree 65 (point_of (packet_of x) (rec_of x)) (framed entry flags x)
agree_framed entry flags x zero n = absurd (cc)
agree_framed entry flags x (suc zero) n = refl
agree_framed entry flags x (suc (suc zero)) n = refl
agree_framed entry flags x (suc (suc (suc zero))) n = refl
agree_framed entry flags x (suc (suc (suc (suc zero)))) n = refl
agree_framed entry flags x (suc (suc (suc (suc (suc zero))))) n = refl
agree_framed entry flags x (suc (suc (suc (suc (suc (suc zero)))))) n = absurd (cc)
agree_framed entry flags x (suc (suc (suc (suc (suc (suc (suc zero))))))) n = refl
agree_framed entry flags x (suc (suc (suc (suc (suc (suc (suc (suc zero)))))))) n = refl
agree_framed entry flags x (suc (suc (suc (suc (suc (suc (suc (suc (suc zero))))))))) n = refl
agree_framed entry flags x (suc (suc (suc (suc (suc (suc (suc (suc (suc (suc zero)))))))))) n = refl
agree_framed entry flags x (suc (suc (suc (suc (suc (suc (suc (suc (suc (suc (suc zero))))))))))) n = refl
agree_framed entry flags x (suc (suc (suc (suc (suc (suc (suc (suc (suc (suc (suc (suc f)))))))))))) n = refl

-- the framed point lies within the tops
pub framed_within : (site : Site) (entry flags : ℕ) (x : List ℕ) → entry ≤ length site.faces + 1 → flags ≤ 63 → IsWithin (tops_of site) x → IsWithin (tops_of site) (framed entry flags x)
framed_within site entry flags x low_entry low_flags w =
    let v : IsWithin (tops_of site) (point_of (packet_of x) (rec_of x)) = subst (λ (l : List ℕ). IsWithin (tops_of site) l) (sym (point_back site x w)) w in
    (low_entry, (v.1.0, (v.1.1.0, (v.1.1.1.0, (v.1.1.1.1.0, (v.1.1.1.1.1.0, (low_flags, v.1.1.1.1.1.1.1)))))))

-- Sides

in_range : (x top : ℕ) → x ≤ top → has (record { lo = 0; hi = top } ∷ []) x ≡ true
in_range x top le = or_left _ _ (and_from (nat_le 0 x) (nat_le x top) (le-leb 0 x (omega arith)) (le-leb x top le))

-- a point within the tops lies in the whole ranges
pub whole_have : (tops p : List ℕ) → IsWithin tops p → sides_have (whole_sides tops) p ≡ true
whole_have [] [] w = refl
whole_have [] (x ∷ p) w = absurd w
whole_have (top ∷ tops) [] w = absurd w
whole_have (top ∷ tops) (x ∷ p) w = and_from _ _ (in_range x top w.0) (whole_have tops p w.1)

-- with another side at one place
pub one_side : (k : ℕ) (s : List Iv) (tops p : List ℕ) → k < length tops → IsWithin tops p → sides_have (slice_set (whole_sides tops) k s) p ≡ has s (slice_index p k)
one_side k s [] p lt w = absurd (omega arith)
one_side k s (top ∷ tops) [] lt w = absurd w
one_side zero s (top ∷ tops) (x ∷ p) lt w = ap (λ (b : Bool). has s x && b) (whole_have tops p w.1) ∙ and-true (has s x)
one_side (suc k) s (top ∷ tops) (x ∷ p) lt w =
    ap (λ (b : Bool). b && sides_have (slice_set (whole_sides tops) k s) p) (in_range x top w.0) ∙ one_side k s tops p (omega arith) w.1

-- with others at the first place and at a later one
pub two_sides : (k : ℕ) (a s : List Iv) (tops p : List ℕ) → k + 1 < length tops → IsWithin tops p
    → sides_have (slice_set (slice_set (whole_sides tops) 0 a) (suc k) s) p ≡ (has a (slice_index p 0) && has s (slice_index p (suc k)))
two_sides k a s [] p lt w = absurd (omega arith)
two_sides k a s (top ∷ tops) [] lt w = absurd w
two_sides k a s (top ∷ tops) (x ∷ p) lt w = ap (λ (b : Bool). has a x && b) (one_side k s tops p (omega arith) w.1)

-- a number alone is a member
pub alone : (n x : ℕ) → has (record { lo = n; hi = n } ∷ []) x ≡ true → x ≡ n
alone n x h = by (and_parts (nat_le n x) (nat_le x n) (by_or (nat_le n x && nat_le x n) h)) where
  by_or : (b : Bool) → (b || false) ≡ true → b ≡ true
  by_or true h = refl
  by_or false h = h

  by : (nat_le n x ≡ true) × (nat_le x n ≡ true) → x ≡ n
  by both = let a = leb-true n x both.0 in let b = leb-true x n both.1 in omega arith

pub itself_alone : (n : ℕ) → has (record { lo = n; hi = n } ∷ []) n ≡ true
itself_alone n = or_left _ _ (and_from (nat_le n n) (nat_le n n) (le-leb n n (omega arith)) (le-leb n n (omega arith)))

-- Projections

-- what a projection over the entry and flags of a part of a tree gives
pub fixed_value : (site : Site) (entry flags : ℕ) (tree part t : Plain Bool) → entry ≤ length site.faces + 1 → flags ≤ 63
    → ((q : List ℕ) → IsWithin (tops_of site) q
    → value part q ≡ cond (has (record { lo = entry; hi = entry } ∷ []) (slice_index q 0) && has (record { lo = flags; hi = flags } ∷ []) (slice_index q 6)) (value tree q) (Some false))
    → ((x : List ℕ) → IsWithin (tops_of site) x → (b : Bool) × (value t x ≡ Some b) × (IsTrue b ↔ IsTrueSomewhere (tops_of site) 65 part x))
    → (x : List ℕ) → IsWithin (tops_of site) x → value t x ≡ Some (truth tree (framed entry flags x))
fixed_value site entry flags tree part t low_entry low_flags restricted projected x w =
    let here = projected x w in
    here.1 ∙ ap Some (same here.0 (truth tree (framed entry flags x)) (λ h. forth (here.2.0 h)) (λ h. here.2.1 (back h))) where
      same : (a b : Bool) → (a ≡ true → b ≡ true) → (b ≡ true → a ≡ true) → a ≡ b
      same true true f g = refl
      same false false f g = refl
      same true false f g = sym (f refl)
      same false true f g = g refl

      some_value : (o : Option Bool) → unwrap_or o false ≡ true → o ≡ Some true
      some_value None h = absurd (false≢true h)
      some_value (Some true) h = refl
      some_value (Some false) h = absurd (false≢true h)

      only : (b : Bool) (v : Option Bool) → cond b v (Some false) ≡ Some true → (b ≡ true) × (v ≡ Some true)
      only true v h = (refl, h)
      only false v h = absurd (not_some h) where
        not_some : Some false ≡ Some true → ⊥
        not_some h = cc

      forth : IsTrueSomewhere (tops_of site) 65 part x → truth tree (framed entry flags x) ≡ true
      forth somewhere =
          let q = somewhere.0 in
          let both =
          only (has (record { lo = entry; hi = entry } ∷ []) (slice_index q 0) && has (record { lo = flags; hi = flags } ∷ []) (slice_index q 6)) (value tree q) (sym (restricted q somewhere.1) ∙ somewhere.3) in
          let in_both = and_parts (has (record { lo = entry; hi = entry } ∷ []) (slice_index q 0)) (has (record { lo = flags; hi = flags } ∷ []) (slice_index q 6)) both.0 in
          ap (truth tree) (framed_is entry flags x q (within_length (tops_of site) q somewhere.1) somewhere.2 (alone entry (slice_index q 0) in_both.0) (alone flags (slice_index q 6) in_both.1))
          ∙ ap (λ (o : Option Bool). unwrap_or o false) both.1

      back : truth tree (framed entry flags x) ≡ true → IsTrueSomewhere (tops_of site) 65 part x
      back h =
          let q = framed entry flags x in
          let v = framed_within site entry flags x low_entry low_flags w in (
            q,
            v,
            subst (λ (l : List ℕ). Agree 65 l q) (point_back site x w) (agree_framed entry flags x),
            restricted q v ∙ ap (λ (b : Bool). cond b (value tree q) (Some false)) (and_from _ _ (itself_alone entry) (itself_alone flags)) ∙ some_value (value tree q) h,
          )

-- Whole projections

pub zeros_within : (site : Site) (tops : List ℕ) → tops ≡ tops_of site → IsWithin tops (0 ∷ 0 ∷ 0 ∷ 0 ∷ 0 ∷ 0 ∷ 0 ∷ 0 ∷ 0 ∷ 0 ∷ 0 ∷ 0 ∷ [])
zeros_within site tops is = subst (λ (ts : List ℕ). IsWithin ts (0 ∷ 0 ∷ 0 ∷ 0 ∷ 0 ∷ 0 ∷ 0 ∷ 0 ∷ 0 ∷ 0 ∷ 0 ∷ 0 ∷ [])) (sym is)
    (omega arith, (omega arith, (omega arith, (omega arith, (omega arith, (omega arith, (omega arith, (omega arith, (omega arith, (omega arith, (omega arith, (omega arith, tt))))))))))))

agree_all : (x : List ℕ) → Agree 4095 (0 ∷ 0 ∷ 0 ∷ 0 ∷ 0 ∷ 0 ∷ 0 ∷ 0 ∷ 0 ∷ 0 ∷ 0 ∷ 0 ∷ []) (point_of (packet_of x) (rec_of x))
agree_all x zero n = absurd (cc)
agree_all x (suc zero) n = absurd (cc)
agree_all x (suc (suc zero)) n = absurd (cc)
agree_all x (suc (suc (suc zero))) n = absurd (cc)
agree_all x (suc (suc (suc (suc zero)))) n = absurd (cc)
agree_all x (suc (suc (suc (suc (suc zero))))) n = absurd (cc)
agree_all x (suc (suc (suc (suc (suc (suc zero)))))) n = absurd (cc)
agree_all x (suc (suc (suc (suc (suc (suc (suc zero))))))) n = absurd (cc)
agree_all x (suc (suc (suc (suc (suc (suc (suc (suc zero)))))))) n = absurd (cc)
agree_all x (suc (suc (suc (suc (suc (suc (suc (suc (suc zero))))))))) n = absurd (cc)
agree_all x (suc (suc (suc (suc (suc (suc (suc (suc (suc (suc zero)))))))))) n = absurd (cc)
agree_all x (suc (suc (suc (suc (suc (suc (suc (suc (suc (suc (suc zero))))))))))) n = absurd (cc)
agree_all x (suc (suc (suc (suc (suc (suc (suc (suc (suc (suc (suc (suc f)))))))))))) n = refl

-- a tree whose projection over all fields is false is true nowhere
pub nowhere_by : (site : Site) (tree t : Plain Bool) (b : Bool) → value t (0 ∷ 0 ∷ 0 ∷ 0 ∷ 0 ∷ 0 ∷ 0 ∷ 0 ∷ 0 ∷ 0 ∷ 0 ∷ 0 ∷ []) ≡ Some b → b ≡ false
    → ((x : List ℕ) → IsWithin (tops_of site) x → (b : Bool) × (value t x ≡ Some b) × (IsTrue b ↔ IsTrueSomewhere (tops_of site) 4095 tree x))
    → IsNowhere site tree
nowhere_by site tree t b at none projected x w =
    false_from_ne_true (truth tree x) (λ h. false≢true (sym none ∙ some_is (sym at ∙ (projected (0 ∷ 0 ∷ 0 ∷ 0 ∷ 0 ∷ 0 ∷ 0 ∷ 0 ∷ 0 ∷ 0 ∷ 0 ∷ 0 ∷ []) low).1) ∙ (projected (0 ∷ 0 ∷ 0 ∷ 0 ∷ 0 ∷ 0 ∷ 0 ∷ 0 ∷ 0 ∷ 0 ∷ 0 ∷ 0 ∷ []) low).2.1 (somewhere h))) where
      low : IsWithin (tops_of site) (0 ∷ 0 ∷ 0 ∷ 0 ∷ 0 ∷ 0 ∷ 0 ∷ 0 ∷ 0 ∷ 0 ∷ 0 ∷ 0 ∷ [])
      low = zeros_within site (tops_of site) refl

      some_is : {a b : Bool} → Some a ≡ Some b → a ≡ b
      some_is h = cc

      some_value : (o : Option Bool) → unwrap_or o false ≡ true → o ≡ Some true
      some_value None h = absurd (false≢true h)
      some_value (Some true) h = refl
      some_value (Some false) h = absurd (false≢true h)

      somewhere : truth tree x ≡ true → IsTrueSomewhere (tops_of site) 4095 tree (0 ∷ 0 ∷ 0 ∷ 0 ∷ 0 ∷ 0 ∷ 0 ∷ 0 ∷ 0 ∷ 0 ∷ 0 ∷ 0 ∷ [])
      somewhere h = (x, w, subst (λ (l : List ℕ). Agree 4095 (0 ∷ 0 ∷ 0 ∷ 0 ∷ 0 ∷ 0 ∷ 0 ∷ 0 ∷ 0 ∷ 0 ∷ 0 ∷ 0 ∷ []) l) (point_back site x w) (agree_all x), some_value (value tree x) h)

-- Lists

-- framed points that look the same have the same value in a tree that rules can tell
module _ (site : Site) (t : Plain Bool) (told : IsTold Entered (tops_of site) t) where
  -- one field is changed: it counts for nothing, or stays
  change : (f : ℕ) (p q : List ℕ) (a b : ℕ) (h : Bool) → (h ≡ false → (y : ℕ) → y ≤ slice_index (tops_of site) f → value t (slice_set p f y) ≡ value t p)
      → b ≤ slice_index (tops_of site) f → slice_set p f b ≡ q → (h ≡ true → p ≡ q) → value t p ≡ value t q
  change f p q a b true free low set same = ap (value t) (same refl)
  change f p q a b false free low set same = sym (free refl b low) ∙ ap (value t) set

  abbrev point : ℕ → ℕ → ℕ → ℕ → ℕ → ℕ → ℕ → ℕ → ℕ → ℕ → ℕ → ℕ → List ℕ
  point e a1 a2 a3 a4 a5 f a7 a8 a9 a10 a11 = e ∷ a1 ∷ a2 ∷ a3 ∷ a4 ∷ a5 ∷ f ∷ a7 ∷ a8 ∷ a9 ∷ a10 ∷ a11 ∷ []

  same_ports : (e a1 a2 a3 a4 a5 f a7 a8 a9 a10 a11 b3 b5 : ℕ) → IsWithin (tops_of site) (point e a1 a2 a3 a4 a5 f a7 a8 a9 a10 a11) → b3 ≤ 65535 → b5 ≤ 65535
      → (has_ports a1 ≡ true → a3 ≡ b3) → (has_ports a1 ≡ true → a5 ≡ b5)
      → value t (point e a1 a2 a3 a4 a5 f a7 a8 a9 a10 a11) ≡ value t (point e a1 a2 b3 a4 b5 f a7 a8 a9 a10 a11)
  same_ports e a1 a2 a3 a4 a5 f a7 a8 a9 a10 a11 b3 b5 w low3 low5 s3 s5 =
      change 3 (point e a1 a2 a3 a4 a5 f a7 a8 a9 a10 a11) (point e a1 a2 b3 a4 a5 f a7 a8 a9 a10 a11) a3 b3 (has_ports a1)
      (λ h y low. told.lacking 3 (point e a1 a2 a3 a4 a5 f a7 a8 a9 a10 a11) w h y low) low3 refl (λ h. ap (λ (n : ℕ). point e a1 a2 n a4 a5 f a7 a8 a9 a10 a11) (s3 h))
      ∙ change 5 (point e a1 a2 b3 a4 a5 f a7 a8 a9 a10 a11) (point e a1 a2 b3 a4 b5 f a7 a8 a9 a10 a11) a5 b5 (has_ports a1)
      (λ h y low. told.lacking 5 (point e a1 a2 b3 a4 a5 f a7 a8 a9 a10 a11) (w.0, (w.1.0, (w.1.1.0, (low3, w.1.1.1.1)))) h y low) low5 refl (λ h. ap (λ (n : ℕ). point e a1 a2 b3 a4 n f a7 a8 a9 a10 a11) (s5 h))

  same_type : (e a1 a2 a3 a4 a5 f a7 a8 a9 a10 a11 b7 : ℕ) → IsWithin (tops_of site) (point e a1 a2 a3 a4 a5 f a7 a8 a9 a10 a11) → b7 ≤ 255
      → (nat_eq a1 1 ≡ true → a7 ≡ b7)
      → value t (point e a1 a2 a3 a4 a5 f a7 a8 a9 a10 a11) ≡ value t (point e a1 a2 a3 a4 a5 f b7 a8 a9 a10 a11)
  same_type e a1 a2 a3 a4 a5 f a7 a8 a9 a10 a11 b7 w low7 s7 =
      change 7 (point e a1 a2 a3 a4 a5 f a7 a8 a9 a10 a11) (point e a1 a2 a3 a4 a5 f b7 a8 a9 a10 a11) a7 b7 (nat_eq a1 1)
      (λ h y low. told.lacking 7 (point e a1 a2 a3 a4 a5 f a7 a8 a9 a10 a11) w h y low) low7 refl (λ h. ap (λ (n : ℕ). point e a1 a2 a3 a4 a5 f n a8 a9 a10 a11) (s7 h))

  -- the ends of connections aren't seen
  pub same_ends : (e a1 a2 a3 a4 a5 f a7 a8 a9 a10 a11 b8 b9 b10 b11 : ℕ) → IsWithin (tops_of site) (point e a1 a2 a3 a4 a5 f a7 a8 a9 a10 a11)
      → b8 ≤ 2 ^ 32 - 1 → b9 ≤ 65535 → b10 ≤ 2 ^ 32 - 1 → b11 ≤ 65535
      → value t (point e a1 a2 a3 a4 a5 f a7 a8 a9 a10 a11) ≡ value t (point e a1 a2 a3 a4 a5 f a7 b8 b9 b10 b11)
  same_ends e a1 a2 a3 a4 a5 f a7 a8 a9 a10 a11 b8 b9 b10 b11 w low8 low9 low10 low11 =
      let v = w.1.1.1.1.1.1.1 in
      sym (told.unseen 8 (point e a1 a2 a3 a4 a5 f a7 a8 a9 a10 a11) (omega arith) (omega arith) (λ q. refl) w b8 low8)
      ∙ sym (told.unseen 9 (point e a1 a2 a3 a4 a5 f a7 b8 a9 a10 a11) (omega arith) (omega arith) (λ q. refl)
      (w.0, (w.1.0, (w.1.1.0, (w.1.1.1.0, (w.1.1.1.1.0, (w.1.1.1.1.1.0, (w.1.1.1.1.1.1.0, (v.0, (low8, v.1.1))))))))) b9 low9)
      ∙ sym (told.unseen 10 (point e a1 a2 a3 a4 a5 f a7 b8 b9 a10 a11) (omega arith) (omega arith) (λ q. refl)
      (w.0, (w.1.0, (w.1.1.0, (w.1.1.1.0, (w.1.1.1.1.0, (w.1.1.1.1.1.0, (w.1.1.1.1.1.1.0, (v.0, (low8, (low9, v.1.1.1)))))))))) b10 low10)
      ∙ sym (told.unseen 11 (point e a1 a2 a3 a4 a5 f a7 b8 b9 b10 a11) (omega arith) (omega arith) (λ q. refl)
      (w.0, (w.1.0, (w.1.1.0, (w.1.1.1.0, (w.1.1.1.1.0, (w.1.1.1.1.1.0, (w.1.1.1.1.1.1.0, (v.0, (low8, (low9, (low10, v.1.1.1.1))))))))))) b11 low11)

  pub framed_listed : (entry flags : ℕ) → entry ≤ length site.faces + 1 → flags ≤ 63 → IsListed (tops_of site) (λ x. truth t (framed entry flags x))
  framed_listed entry flags low_entry low_flags x y v w same =
      let at : ℕ → ℕ = λ k. get_or x k 0 in
      let to : ℕ → ℕ = λ k. get_or y k 0 in
      let p = framed_within site entry flags x low_entry low_flags v in
      let q = framed_within site entry flags y low_entry low_flags w in
      ap (λ (o : Option Bool). unwrap_or o false) (
      same_ports entry (at 1) (at 2) (at 3) (at 4) (at 5) flags (at 7) (at 8) (at 9) (at 10) (at 11) (to 3) (to 5) p q.1.1.1.0 q.1.1.1.1.1.0 same.dport same.sport
      ∙ same_type entry (at 1) (at 2) (to 3) (at 4) (to 5) flags (at 7) (at 8) (at 9) (at 10) (at 11) (to 7)
      (p.0, (p.1.0, (p.1.1.0, (q.1.1.1.0, (p.1.1.1.1.0, (q.1.1.1.1.1.0, p.1.1.1.1.1.1)))))) q.1.1.1.1.1.1.1.0 (λ h. same.icmp (eqb-true (at 1) 1 h))
      ∙ same_ends entry (at 1) (at 2) (to 3) (at 4) (to 5) flags (to 7) (at 8) (at 9) (at 10) (at 11) (to 8) (to 9) (to 10) (to 11)
      (p.0, (p.1.0, (p.1.1.0, (q.1.1.1.0, (p.1.1.1.1.0, (q.1.1.1.1.1.0, (low_flags, (q.1.1.1.1.1.1.1.0, p.1.1.1.1.1.1.1.1))))))))
      q.1.1.1.1.1.1.1.1.0 q.1.1.1.1.1.1.1.1.1.0 q.1.1.1.1.1.1.1.1.1.1.0 q.1.1.1.1.1.1.1.1.1.1.1.0
      ∙ ap (λ (n : ℕ). value t (point entry n (at 2) (to 3) (at 4) (to 5) flags (to 7) (to 8) (to 9) (to 10) (to 11))) same.proto
      ∙ ap (λ (n : ℕ). value t (point entry (to 1) n (to 3) (at 4) (to 5) flags (to 7) (to 8) (to 9) (to 10) (to 11))) same.dst
      ∙ ap (λ (n : ℕ). value t (point entry (to 1) (to 2) (to 3) n (to 5) flags (to 7) (to 8) (to 9) (to 10) (to 11))) same.src)
