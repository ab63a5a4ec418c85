-- The longest of the networks that hold an address.
use Rattle.std.proofs.Common.{◌≡◌, ◌≢◌, ◌<◌, ◌≤◌, ◌⊎◌, ℕ, zero, suc, Bool, true, false, cond, nat_le, Option, Some, None, List, [], ◌∷◌, ◌++◌, inl, inr, arith, refl, sym, ap, subst, ◌∙◌}
use Rattle.std.specs.List.{Contains}
use Rattle.std.specs.Option.{option_map_or}
use Rattle.std.proofs.lemmas.Bool.{le-leb, lt-leb, leb-true, leb-false, cases_lt, cases_eq, both_ways}
use Rattle.fws_net.specs.declared.site.RouteLine.{RouteLine}
use Rattle.fws_net.specs.declared.site.Site.{Site}
use Rattle.fws_net.specs.RouteLaws.{LongestPrefixLeads}
use Rattle.fws_net.specs.Routes.{joined, leads, longer, longest, prefixes_of}

-- Of two, and of two lists

pub longer-first : (x y : RouteLine) → y.net.len ≤ x.net.len → longer x (Some y) ≡ x
longer-first x y h = ap (λ t. cond t x y) (le-leb y.net.len x.net.len h)

pub longer-second : (x y : RouteLine) → x.net.len < y.net.len → longer x (Some y) ≡ y
longer-second x y h = ap (λ t. cond t x y) (lt-leb y.net.len x.net.len h)

longer_assoc : (x : RouteLine) (o p : Option RouteLine) → longer x (joined o p) ≡ longer (longer x o) p
longer_assoc x None p = refl
longer_assoc x (Some y) None = refl
longer_assoc x (Some y) (Some z) = elim (cases_lt x.net.len y.net.len) [
  | inl xy ↦ elim (cases_lt y.net.len z.net.len) [
    | inl yz ↦ let xz : x.net.len < z.net.len = omega arith in
        ap (λ l. longer x (Some l)) (longer-second y z yz) ∙ longer-second x z xz ∙ sym (longer-second y z yz)
        ∙ ap (λ l. longer l (Some z)) (sym (longer-second x y xy))
    | inr zy ↦ ap (λ l. longer x (Some l)) (longer-first y z zy) ∙ longer-second x y xy ∙ sym (longer-first y z zy)
        ∙ ap (λ l. longer l (Some z)) (sym (longer-second x y xy))
  ]
  | inr yx ↦ elim (cases_lt y.net.len z.net.len) [
    | inl yz ↦ ap (λ l. longer x (Some l)) (longer-second y z yz) ∙ ap (λ l. longer l (Some z)) (sym (longer-first x y yx))
    | inr zy ↦ let zx : z.net.len ≤ x.net.len = omega arith in
        ap (λ l. longer x (Some l)) (longer-first y z zy) ∙ longer-first x y yx ∙ sym (longer-first x z zx)
        ∙ ap (λ l. longer l (Some z)) (sym (longer-first x y yx))
  ]
]

pub joined_assoc : (o p q : Option RouteLine) → joined (joined o p) q ≡ joined o (joined p q)
joined_assoc None p q = refl
joined_assoc (Some x) p q = ap (λ l. Some l) (sym (longer_assoc x p q))

pub joined-none : (o : Option RouteLine) → joined o None ≡ o
joined-none None = refl
joined-none (Some x) = refl

-- a network ahead of the others
ahead : (t : Bool) (x : RouteLine) (o p q : Option RouteLine) → q ≡ joined o p → cond t (Some (longer x q)) q ≡ joined (cond t (Some (longer x o)) o) p
ahead true x o p q e = ap (λ r. Some (longer x r)) e ∙ ap (λ l. Some l) (longer_assoc x o p)
ahead false x o p q e = e

pub longest-append : (xs ys : List RouteLine) (a : ℕ) → longest (xs ++ ys) a ≡ joined (longest xs a) (longest ys a)
longest-append [] ys a = refl
longest-append (x ∷ xs) ys a = ahead (leads x a) x (longest xs a) (longest ys a) (longest (xs ++ ys) a) (longest-append xs ys a)

-- a list more
pub longest_more : (o : Option RouteLine) (xs ys : List RouteLine) (a : ℕ)
    → joined (joined o (longest xs a)) (longest ys a) ≡ joined o (longest (xs ++ ys) a)
longest_more o xs ys a = joined_assoc o (longest xs a) (longest ys a) ∙ ap (λ p. joined o p) (sym (longest-append xs ys a))

-- What the longest is

Contains-first : (x : RouteLine) (xs : List RouteLine) → Contains (x ∷ xs) x
Contains-first x xs = (zero, omega arith, refl)

Contains-later : (x y : RouteLine) (xs : List RouteLine) → Contains xs y → Contains (x ∷ xs) y
Contains-later x y xs (k, h, e) = (suc k, omega arith, e)

Contains-cases : (x y : RouteLine) (xs : List RouteLine) → Contains (x ∷ xs) y → (x ≡ y) ⊎ Contains xs y
Contains-cases x y xs (zero, h, e) = inl e
Contains-cases x y xs (suc k, h, e) = inr (k, omega arith, e)

-- no network holds the address, or this one does and none that does is longer
abbrev IsLongest : List RouteLine → ℕ → Option RouteLine → Type 0
IsLongest lines a None = (x : RouteLine) → Contains lines x → leads x a ≡ false
IsLongest lines a (Some m) = Contains lines m × (leads m a ≡ true) × ((x : RouteLine) → Contains lines x → leads x a ≡ true → x.net.len ≤ m.net.len)

first_leads : (x y : RouteLine) (a : ℕ) (t : Bool) → x ≡ y → leads x a ≡ t → leads y a ≡ t
first_leads x y a t e h = ap (λ l. leads l a) (sym e) ∙ h

same_len : (x y : RouteLine) → x ≡ y → y.net.len ≡ x.net.len
same_len x y e = ap (λ l. l.net.len) (sym e)

choice : (x m : RouteLine) (lines : List RouteLine) (a : ℕ) (u : Bool) → nat_le m.net.len x.net.len ≡ u → leads x a ≡ true
    → IsLongest lines a (Some m) → IsLongest (x ∷ lines) a (Some (cond u x m))
choice x m lines a true le e h = (
  Contains-first x lines,
  e,
  λ y c ly. elim (Contains-cases x y lines c) [
    | inl same ↦ omega (arith, same_len x y same)
    | inr later ↦ omega (arith, h.2 y later ly, leb-true m.net.len x.net.len le)
  ],
)
choice x m lines a false le e h = (
  Contains-later x m lines h.0,
  h.1,
  λ y c ly. elim (Contains-cases x y lines c) [
    | inl same ↦ omega (arith, same_len x y same, leb-false m.net.len x.net.len le)
    | inr later ↦ h.2 y later ly
  ],
)

longest_step : (x : RouteLine) (lines : List RouteLine) (a : ℕ) (t : Bool) (o : Option RouteLine) → leads x a ≡ t → IsLongest lines a o
    → IsLongest (x ∷ lines) a (cond t (Some (longer x o)) o)
longest_step x lines a false None e h = λ y c. elim (Contains-cases x y lines c) [
  | inl same ↦ first_leads x y a false same e
  | inr later ↦ h y later
]
longest_step x lines a false (Some m) e h = (
  Contains-later x m lines h.0,
  h.1,
  λ y c ly. elim (Contains-cases x y lines c) [
    | inl same ↦ absurd (both_ways (leads y a) (first_leads x y a false same e) ly)
    | inr later ↦ h.2 y later ly
  ],
)
longest_step x lines a true None e h = (
  Contains-first x lines,
  e,
  λ y c ly. elim (Contains-cases x y lines c) [
    | inl same ↦ omega (arith, same_len x y same)
    | inr later ↦ absurd (both_ways (leads y a) (h y later) ly)
  ],
)
longest_step x lines a true (Some m) e h = choice x m lines a (nat_le m.net.len x.net.len) refl e h

is_longest : (lines : List RouteLine) (a : ℕ) → IsLongest lines a (longest lines a)
is_longest [] a = λ x c. absurd (omega (arith, c.1))
is_longest (x ∷ lines) a = longest_step x lines a (leads x a) (longest lines a) refl (is_longest lines a)

-- it is one of them
pub longest_among : (lines : List RouteLine) (a : ℕ) (m : RouteLine) → longest lines a ≡ Some m → Contains lines m
longest_among lines a m e = let P : Option RouteLine → Type 0 = λ o. IsLongest lines a o in (subst P e (is_longest lines a)).0

-- The law

same_line : (x y : RouteLine) → ((x ≡ y → ⊥) → ⊥) → x ≡ y
same_line x y h =
    let line : ℕ → ℕ → ℕ → RouteLine = λ addr len face. record { net = record { addr = addr; len = len }; face = face } in
    elim (cases_eq x.net.addr y.net.addr) [
      | inl addr ↦ elim (cases_eq x.net.len y.net.len) [
        | inl len ↦ elim (cases_eq x.face y.face) [
          | inl face ↦ ap (λ n. line n x.net.len x.face) addr ∙ ap (λ n. line y.net.addr n x.face) len ∙ ap (λ n. line y.net.addr y.net.len n) face
          | inr other ↦ absurd (h (λ e. other (ap (λ l. l.face) e)))
        ]
        | inr other ↦ absurd (h (λ e. other (ap (λ l. l.net.len) e)))
      ]
      | inr other ↦ absurd (h (λ e. other (ap (λ l. l.net.addr) e)))
    ]

only_longest : (lines : List RouteLine) (line : RouteLine) (a : ℕ) (o : Option RouteLine) → Contains lines line → leads line a ≡ true
    → ((other : RouteLine) → Contains lines other → leads other a ≡ true → other ≢ line → other.net.len < line.net.len)
    → IsLongest lines a o → o ≡ Some line
only_longest lines line a None c e h is = absurd (both_ways (leads line a) (is line c) e)
only_longest lines line a (Some m) c e h is =
    ap (λ l. Some l) (same_line m line (λ ne. omega (arith, h m is.0 is.1 ne, is.2 line c e)))

none_leads : (lines : List RouteLine) (a : ℕ) (o : Option RouteLine) → ((line : RouteLine) → Contains lines line → leads line a ≡ false)
    → IsLongest lines a o → o ≡ None
none_leads lines a None h is = refl
none_leads lines a (Some m) h is = absurd (both_ways (leads m a) (h m is.0) is.1)

pub longest_leads : (site : Site) (a : ℕ) → LongestPrefixLeads site a
longest_leads site a = record {
  led = λ line c e h. ap (λ o. option_map_or (λ l. l.face) o site.fallback)
      (only_longest (prefixes_of site) line a (longest (prefixes_of site) a) c e h (is_longest (prefixes_of site) a));
  unled = λ h. ap (λ o. option_map_or (λ l. l.face) o site.fallback)
      (none_leads (prefixes_of site) a (longest (prefixes_of site) a) h (is_longest (prefixes_of site) a));
}
