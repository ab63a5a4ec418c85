-- The packets of boxes and rows have paths.
use Rattle.std.proofs.Common.{◌≡◌, ℕ, ◌<◌, ◌≤◌, Bool, true, false, ◌&&◌, ◌||◌, not, Some, List, [], ◌∷◌, ◌++◌, length, get_or, inl, inr, refl, sym, ◌∙◌, ap, subst, All}
use Rattle.std.proofs.lemmas.Bool.{and_from, and_parts, cases_Bool, false≢true, le-leb, leb-true, or_cases, or_left, or_right}
use Rattle.std.proofs.lemmas.List.Elements.{All-nil}
use Rattle.std.proofs.lemmas.List.Folds.{list_any-append}
use Rattle.std.specs.Prelude.{nat_eq, nat_le, slice_index}
use Rattle.fws_box.specs.Sides.{IsWithin, sides_have}
use Rattle.fws_iv.specs.declared.iv.Iv.{Iv}
use Rattle.fws_iv.specs.Ivs.{has}
use Rattle.fws_net.specs.declared.site.Site.{Site}
use Rattle.fws_net.specs.Fates.{has_ports}
use Rattle.fws_net.specs.Points.{tops_of}
use Rattle.fws_tree.specs.declared.row.Row.{Row}
use Rattle.fws_tree.specs.Plain.{Plain, value, IsReduced}
use Rattle.fws_tree.specs.Rows.{paths_of, row_hits}
use Rattle.fws_ios_put_entries.specs.declared.path.Path.{Path}
use Rattle.fws_ios_put_entries.specs.Paths.{some_path_has}
use Rattle.fws_ios_put_entries.specs.Seen.{IsListed}
use Rattle.fws_ios_put_cover.specs.declared.class.Class.{Class}
use Rattle.fws_ios_put_cover.specs.declared.class.Class.TheVariants.{Tcp, Ports, Types, Others}
use Rattle.fws_ios_put_cover.specs.Boxes.{part}
use Rattle.fws_ios_put_cover.specs.Classes.{is_tcp, takes, IsPart}
use Rattle.fws_ios_put_cover.specs.Covers.{ArePathsOver}
use Rattle.fws_ios_put_cover.specs.Inside.{true_row_has, AreClassPaths, AreFurther, HaveBox, HaveClass, HaveRows, IsFilledBox, IsGoodBox, IsGoodRow, IsWider, LooksInside, Widens}
use Rattle.fws_ios_put_cover.specs.Steps.{AreBoxPaths, AreKept, IsUsable}
use Rattle.fws_ios_put_cover.proofs.Asked.{part_asked, part_covers, part_inside}
use Rattle.fws_ios_put_cover.proofs.Chaining.{addresses_seen, asks_have, have_asks}
use Rattle.fws_ios_put_cover.proofs.Points.{have_at, within_at}
use Rattle.fws_ios_put_cover.proofs.Rows.{rows_filled, rows_hit}

-- ---- a class of a box

tcp_class : (class : Class) → is_tcp class ≡ true → class ≡ Tcp
tcp_class Tcp e = refl
tcp_class Ports e = absurd (false≢true e)
tcp_class Types e = absurd (false≢true e)
tcp_class Others e = absurd (false≢true e)

part_good : (site : Site) (class : Class) (within : Plain Bool) (sides new : List (List Iv)) → IsFilledBox (tops_of site) sides → LooksInside (tops_of site) within sides
    → IsPart class (tops_of site) sides new → IsGoodBox (is_tcp class) (tops_of site) within new
part_good site class within sides new filled looks h = record {
  asked = part_asked site (is_tcp class) class sides new (tcp_class class) filled h;
  inside = part_inside class (tops_of site) within sides new refl filled looks h;
}

-- the wider box of a part
pub part_wider : (site : Site) (tops : List ℕ) (class : Class) (established : Bool) (within : Plain Bool) (sides new wide : List (List Iv)) → tops ≡ tops_of site → established ≡ is_tcp class
    → IsFilledBox (tops_of site) sides → LooksInside (tops_of site) within sides → IsPart class tops sides new → Widens established tops within new wide
    → IsWider (is_tcp class) (tops_of site) within new wide
part_wider site tops class established within sides new wide e tcp filled looks h w =
    subst (λ t. IsWider (is_tcp class) t within new wide) e
    (subst (λ b. Widens b tops within new wide) tcp w site e
    (subst (λ t. IsGoodBox (is_tcp class) t within new) (sym e) (part_good site class within sides new filled looks (subst (λ t. IsPart class t sides new) e h))))

-- a class of which the box has no packet
pub none_of_class : (site : Site) (tops : List ℕ) (class : Class) (within : Plain Bool) (sides new : List (List Iv)) (paths : List Path) → tops ≡ tops_of site → IsFilledBox (tops_of site) sides
    → IsPart class tops sides new → part new 1 ≡ [] → paths ≡ [] → AreClassPaths site class within sides paths
none_of_class site tops class within sides new paths e filled h empty is = subst (λ l. AreClassPaths site class within sides l) (sym is) (record {
  usable = All-nil (IsUsable (is_tcp class));
  inside = λ p x at seen it. absurd (false≢true it);
  have = λ p x at seen in_it takes_it.
      let own : IsPart class (tops_of site) sides new = subst (λ t. IsPart class t sides new) e h in
      let in_part : sides_have new x ≡ true = part_covers class (tops_of site) sides new refl filled.twelve own x at in_it (subst (λ v. takes class v ≡ true) (sym seen.proto) takes_it) in
      absurd (false≢true (subst (λ s. has s (slice_index x 1) ≡ true) empty (have_at new x 1 (subst (λ n. 1 < n) (sym own.before.twelve) (leb-true 2 12 refl)) in_part)));
})

pub class_done : (site : Site) (tops : List ℕ) (class : Class) (within : Plain Bool) (sides new wide : List (List Iv)) (paths : List Path) → tops ≡ tops_of site → IsFilledBox (tops_of site) sides
    → IsPart class tops sides new → IsWider (is_tcp class) (tops_of site) within new wide → AreBoxPaths wide paths → AreClassPaths site class within sides paths
class_done site tops class within sides new wide paths e filled h w box = record {
  usable = box.usable (is_tcp class) (λ tcp is v it. w.good.asked.tcp tcp v it);
  inside = λ p x at seen it.
      w.good.inside x at (asks_have site (is_tcp class) wide p x w.good.asked at seen (sym (box.same p (addresses_seen site p x at seen)) ∙ it));
  have = λ p x at seen in_it takes_it.
      let own : IsPart class (tops_of site) sides new = subst (λ t. IsPart class t sides new) e h in
      let in_part : sides_have new x ≡ true = part_covers class (tops_of site) sides new refl filled.twelve own x at in_it (subst (λ v. takes class v ≡ true) (sym seen.proto) takes_it) in
      box.same p (addresses_seen site p x at seen) ∙ have_asks site (is_tcp class) wide p x w.good.asked at seen (w.grows x at in_part);
}

-- ---- kept paths

or_false : (b : Bool) → (b || false) ≡ b
or_false true = refl
or_false false = refl

-- kept paths of a class
pub class_kept : (site : Site) (class : Class) (within : Plain Bool) (sides : List (List Iv)) (old new paths : List Path) → AreKept old new paths → AreClassPaths site class within sides paths
    → AreFurther site (is_tcp class) within old new × HaveClass site class sides new
class_kept site class within sides old new paths kept h = (
  record {
    usable = λ all. kept.usable (is_tcp class) all h.usable;
    inside = λ inside p x at seen it. elim (or_cases (some_path_has old p) (some_path_has paths p) (sym (kept.same p) ∙ it)) [
      | inl a ↦ inside p x at seen a
      | inr b ↦ h.inside p x at seen b
    ];
    grows = λ p it. kept.same p ∙ or_left (some_path_has old p) (some_path_has paths p) it;
  },
  λ p x at seen in_it takes_it. kept.same p ∙ or_right (some_path_has old p) (some_path_has paths p) (h.have p x at seen in_it takes_it),
)

further_then : (site : Site) (established : Bool) (within : Plain Bool) (a b c : List Path) → AreFurther site established within a b → AreFurther site established within b c → AreFurther site established within a c
further_then site established within a b c v w = record {
  usable = λ all. w.usable (v.usable all);
  inside = λ inside. w.inside (v.inside inside);
  grows = λ p it. w.grows p (v.grows p it);
}

further_same : (site : Site) (established : Bool) (within : Plain Bool) (a : List Path) → AreFurther site established within a a
further_same site established within a = record { usable = λ all. all; inside = λ inside. inside; grows = λ p it. it }

-- the packets of a box belong to three classes
pub classes_kept : (site : Site) (within : Plain Bool) (sides : List (List Iv)) (a b c d : List Path) → AreFurther site false within a b × HaveClass site Ports sides b
    → AreFurther site false within b c × HaveClass site Types sides c → AreFurther site false within c d × HaveClass site Others sides d → AreFurther site false within a d × HaveBox site false sides d
classes_kept site within sides a b c d u v w = (
  further_then site false within a b d u.0 (further_then site false within b c d v.0 w.0),
  λ p x at seen in_it tcp. elim (cases_Bool (has_ports p.proto)) [
    | inl y ↦ w.0.grows p (v.0.grows p (u.1 p x at seen in_it y))
    | inr no_port ↦ elim (cases_Bool (nat_eq p.proto 1)) [
      | inl y ↦ w.0.grows p (v.1 p x at seen in_it y)
      | inr no_type ↦ w.1 p x at seen in_it
          (and_from (nat_le p.proto 255 && not (has_ports p.proto)) (not (nat_eq p.proto 1))
          (and_from (nat_le p.proto 255) (not (has_ports p.proto)) (le-leb p.proto 255 (subst (λ n. n ≤ 255) seen.proto (within_at (tops_of site) x 1 at))) (ap not no_port)) (ap not no_type))
    ]
  ],
)

-- ---- rows

pub row_kept : (site : Site) (established : Bool) (within : Plain Bool) (rows : List (Row Bool)) (row : Row Bool) (old mid new : List Path) → row.leaf ≡ true
    → AreFurther site established within old mid × HaveRows site established rows mid → AreFurther site established within mid new × HaveBox site established row.sides new
    → AreFurther site established within old new × HaveRows site established (rows ++ row ∷ []) new
row_kept site established within rows row old mid new it h w = (
  further_then site established within old mid new h.0 w.0,
  λ p x at seen hit tcp. elim (or_cases (true_row_has rows x) ((row.leaf && sides_have row.sides x) || false) (sym (list_any-append (λ (r : Row Bool). r.leaf && sides_have r.sides x) rows (row ∷ [])) ∙ hit)) [
    | inl a ↦ w.0.grows p (h.1 p x at seen a tcp)
    | inr b ↦ w.1 p x at seen (and_parts row.leaf (sides_have row.sides x) (sym (or_false (row.leaf && sides_have row.sides x)) ∙ b)).1 tcp
  ],
)

pub row_passed : (site : Site) (established : Bool) (within : Plain Bool) (rows : List (Row Bool)) (row : Row Bool) (old mid new : List Path) → row.leaf ≡ false → new ≡ mid
    → AreFurther site established within old mid × HaveRows site established rows mid → AreFurther site established within old new × HaveRows site established (rows ++ row ∷ []) new
row_passed site established within rows row old mid new no_it is h =
    subst (λ l. AreFurther site established within old l × HaveRows site established (rows ++ row ∷ []) l) (sym is) (
      h.0,
      λ p x at seen hit tcp. elim (or_cases (true_row_has rows x) ((row.leaf && sides_have row.sides x) || false) (sym (list_any-append (λ (r : Row Bool). r.leaf && sides_have r.sides x) rows (row ∷ [])) ∙ hit)) [
        | inl a ↦ h.1 p x at seen a tcp
        | inr b ↦ absurd (false≢true (sym no_it ∙ (and_parts row.leaf (sides_have row.sides x) (sym (or_false (row.leaf && sides_have row.sides x)) ∙ b)).0))
      ],
    )

-- a row that is true looks like points of the second set alone
pub row_looks : (site : Site) (needed within : Plain Bool) (row : Row Bool) → ((x : List ℕ) → IsWithin (tops_of site) x → sides_have row.sides x ≡ true → value needed x ≡ Some row.leaf)
    → IsListed (tops_of site) (value needed) → ((x : List ℕ) → IsWithin (tops_of site) x → value needed x ≡ Some true → value within x ≡ Some true) → row.leaf ≡ true → LooksInside (tops_of site) within row.sides
row_looks site needed within row right listed part_of it x y at to in_it same = part_of y to (sym (listed x y at to same) ∙ right x at in_it ∙ ap Some it)

pub paths_done : (site : Site) (established : Bool) (needed within : Plain Bool) (rows : List (Row Bool)) (paths : List Path)
    → ((x : List ℕ) → IsWithin (tops_of site) x → value needed x ≡ Some true → true_row_has rows x ≡ true)
    → (established ≡ true → (x : List ℕ) → IsWithin (tops_of site) x → value needed x ≡ Some true → slice_index x 1 ≡ 6)
    → AreFurther site established within [] paths × HaveRows site established rows paths → ArePathsOver site established needed within paths
paths_done site established needed within rows paths hit tcp h = record {
  usable = h.0.usable (All-nil (IsUsable established));
  sound = h.0.inside (λ p x at seen it. absurd (false≢true it));
  whole = λ p x at seen it. h.1 p x at seen (hit x at it) (λ e. sym seen.proto ∙ tcp e x at it);
}

-- the rows of the first set are good
pub good_rows : (site : Site) (tops : List ℕ) (needed within : Plain Bool) (rows : List (Row Bool)) → tops ≡ tops_of site → rows ≡ paths_of tops needed → IsReduced tops needed
    → ((x : List ℕ) → IsWithin tops x → All (λ row. sides_have row.sides x ≡ true → value needed x ≡ Some row.leaf) rows) → IsListed (tops_of site) (value needed)
    → ((x : List ℕ) → IsWithin (tops_of site) x → value needed x ≡ Some true → value within x ≡ Some true) → All (IsGoodRow (tops_of site) within) rows
good_rows site tops needed within rows e is reduced right listed part_of k d lt it =
    let filled : All (λ row. IsFilledBox (tops_of site) row.sides) rows =
    subst (λ l. All (λ row. IsFilledBox (tops_of site) row.sides) l) (sym is)
    (subst (λ t. All (λ row. IsFilledBox t row.sides) (paths_of tops needed)) e (rows_filled tops needed (ap length e) reduced)) in
    let at_row : (x : List ℕ) → IsWithin (tops_of site) x → sides_have (get_or rows k d).sides x ≡ true → value needed x ≡ Some (get_or rows k d).leaf =
    λ x at in_it. right x (subst (λ t. IsWithin t x) (sym e) at) k d lt in_it in
    (filled k d lt, row_looks site needed within (get_or rows k d) at_row listed part_of it)

pub rows_all_hit : (site : Site) (tops : List ℕ) (needed : Plain Bool) (rows : List (Row Bool)) → tops ≡ tops_of site → ((x : List ℕ) → IsWithin tops x → row_hits rows x ≡ 1)
    → ((x : List ℕ) → IsWithin tops x → All (λ row. sides_have row.sides x ≡ true → value needed x ≡ Some row.leaf) rows) → (x : List ℕ) → IsWithin (tops_of site) x → value needed x ≡ Some true
    → true_row_has rows x ≡ true
rows_all_hit site tops needed rows e once right x at it =
    let own : IsWithin tops x = subst (λ t. IsWithin t x) (sym e) at in rows_hit rows x (value needed x) (once x own) (right x own) it
