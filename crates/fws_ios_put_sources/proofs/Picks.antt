-- The packets that a list permits, and those that it has to deny.
use Rattle.std.proofs.Common.{◌≡◌, ℕ, ◌<◌, Bool, true, false, Some, List, length, refl, sym, ◌∙◌, ap, subst, arith}
use Rattle.std.proofs.lemmas.Bool.{eqb-true, false≢true, ltb-true}
use Rattle.std.specs.Option.{option_map_or}
use Rattle.fws_box.specs.Sides.{IsWithin}
use Rattle.fws_ios_put_entries.specs.Seen.{IsListed, LookSame}
use Rattle.fws_ios_put_sources.specs.declared.parted.Parted.{Parted}
use Rattle.fws_ios_put_sources.specs.Crossing.{AreTold}
use Rattle.fws_ios_put_sources.specs.Parting.{AreApart, AreWider, IsParted, IsPartedAt, IsTotal}
use Rattle.fws_ios_put_sources.specs.Picking.{is_picked, place_in, place_of, HasPicked, IsPick, IsPickedNear}
use Rattle.fws_net.specs.declared.outcome.Outcome.{Outcome}
use Rattle.fws_net.specs.declared.outcome.Outcome.TheVariants.{Drop, Accept}
use Rattle.fws_net.specs.declared.outcome.Rewrite.{Rewrite}
use Rattle.fws_tree.specs.Changed.{is_free, Agree, IsTrueSomewhere}
use Rattle.fws_tree.specs.Plain.{Plain, value}
use Rattle.fws_ios_put_sources.proofs.Leaves.{some_once}
use Rattle.fws_ios_put_sources.proofs.Looks.{listed_of, look_mixed}
use Rattle.fws_ios_put_sources.proofs.Mixed.{agree_mixed, field_taken, mixed_within, with_fields}
use Rattle.fws_ios_put_sources.proofs.Parts.{IsProjected}

-- ---- the tree of a place

-- what is made of outcomes
abbrev pub IsRelabelled : List ℕ → Plain Outcome → List ℕ → ℕ → Bool → Plain Bool → Type 0
IsRelabelled tops t addrs place later all =
    (x : List ℕ) → IsWithin tops x → (o : Outcome) × (value t x ≡ Some o) × (value all x ≡ Some (is_picked addrs place later o))

pub pick_of : (tops : List ℕ) (t : Plain Outcome) (addrs : List ℕ) (place : ℕ) (later : Bool) (all : List ℕ × Plain Bool) (u : Plain Bool) → all.0 ≡ tops
    → IsRelabelled tops t addrs place later all.1 → IsProjected all.0 65 all.1 u → IsPick tops t addrs place later u
pick_of tops t addrs place later all u same marked projected x w =
    let s = subst (λ ts. IsProjected ts 65 all.1 u) same projected x w in
    (s.0, s.1, ((λ e. near (s.2.0 e)), λ n. s.2.1 (n.point, n.within, n.near, there n)))
  where
    by : (q : List ℕ) → IsWithin tops q → Agree 65 x q → (o : Outcome) → value t q ≡ Some o → is_picked addrs place later o ≡ true → IsPickedNear tops t addrs place later x
    by q v agree Drop e p = absurd (false≢true p)
    by q v agree (Accept r) e p = record { point = q; within = v; near = agree; rewriting = r; accepted = e; at = p }

    near : IsTrueSomewhere tops 65 all.1 x → IsPickedNear tops t addrs place later x
    near q = let m = marked q.0 q.1 in by q.0 q.1 q.2 m.0 m.1 (some_once (is_picked addrs place later m.0) true (sym m.2 ∙ q.3))

    there : (n : IsPickedNear tops t addrs place later x) → value all.1 n.point ≡ Some true
    there n = let m = marked n.point n.within in
        let is : m.0 ≡ Accept n.rewriting = some_once m.0 (Accept n.rewriting) (sym m.1 ∙ n.accepted) in
        m.2 ∙ ap Some (ap (λ o. is_picked addrs place later o) is ∙ n.at)

-- ---- what it has

has_picked : (tops : List ℕ) (t : Plain Outcome) (addrs : List ℕ) (place : ℕ) (later : Bool) (u : Plain Bool) → IsPick tops t addrs place later u
    → HasPicked tops t addrs place later u
has_picked tops t addrs place later u pick x w within e at =
    let s = pick x within in
    s.1 ∙ ap Some (s.2.1 (record { point = x; within = within; near = λ f fixed. refl; rewriting = w; accepted = e; at = at }))

same_place : (addrs : List ℕ) (v w : Rewrite) → v.src ≡ w.src → place_of addrs v ≡ place_of addrs w
same_place addrs v w e = ap (λ s. option_map_or (λ e. place_in addrs e.addr) s (length addrs)) e

picks_apart : (tops : List ℕ) (t : Plain Outcome) (addrs : List ℕ) (place : ℕ) (p d : Plain Bool) → AreTold tops t
    → IsPick tops t addrs place false p → IsPick tops t addrs place true d → AreApart tops p d
picks_apart tops t addrs place p d told first second x w on off =
    let a = first x w in
    let b = second x w in
    let here : IsPickedNear tops t addrs place false x = a.2.0 (some_once a.0 true (sym a.1 ∙ on)) in
    let behind : IsPickedNear tops t addrs place true x = b.2.0 (some_once b.0 true (sym b.1 ∙ off)) in
    let same : place_of addrs here.rewriting ≡ place_of addrs behind.rewriting
    = same_place addrs here.rewriting behind.rewriting
    (told.agree x here.point behind.point here.rewriting behind.rewriting here.within behind.within here.near behind.near here.accepted behind.accepted) in
    let one : place ≡ place_of addrs here.rewriting = eqb-true place (place_of addrs here.rewriting) here.at in
    let two : place < place_of addrs behind.rewriting = ltb-true place (place_of addrs behind.rewriting) behind.at in
    omega (arith, same, one, two)

picks_listed : (tops : List ℕ) (t : Plain Outcome) (addrs : List ℕ) (place : ℕ) (later : Bool) (u : Plain Bool) → AreTold tops t
    → IsPick tops t addrs place later u → IsListed tops (value u)
picks_listed tops t addrs place later u told pick = listed_of tops u (λ x. IsPickedNear tops t addrs place later x) pick moved
  where
    moved : (x y : List ℕ) → IsWithin tops x → IsWithin tops y → LookSame x y → IsPickedNear tops t addrs place later x → IsPickedNear tops t addrs place later y
    moved x y w v look n =
        let z : List ℕ = with_fields 65 n.point y in
        let inside : IsWithin tops z = mixed_within (λ k. is_free 65 k) tops n.point y n.within v in
        record {
          point = z;
          within = inside;
          near = agree_mixed 65 tops n.point y n.within v;
          rewriting = n.rewriting;
          accepted = sym (told.steady n.point z n.within inside (field_taken 65 tops n.point y n.within v 0 refl) (field_taken 65 tops n.point y n.within v 6 refl)
              (look_mixed 65 tops x y n.point refl n.within v look n.near)) ∙ n.accepted;
          at = n.at;
        }

-- ---- the sets of a place

pub picked_parts : (tops : List ℕ) (t : Plain Outcome) (addrs : List ℕ) (place : ℕ) (s : Parted) → s.permitted.0 ≡ tops → s.denied.0 ≡ tops → AreTold tops t
    → IsPick tops t addrs place false s.permitted.1 → IsPick tops t addrs place true s.denied.1 → IsPartedAt tops t addrs place s
picked_parts tops t addrs place s permitted denied told first second = record {
  tops_are = permitted;
  parted = record {
    tops = denied ∙ sym permitted;
    total = subst (λ ts. IsTotal ts s.permitted.1) (sym permitted) (λ x w. let a = first x w in (a.0, a.1));
    apart = subst (λ ts. AreApart ts s.permitted.1 s.denied.1) (sym permitted) (picks_apart tops t addrs place s.permitted.1 s.denied.1 told first second);
    listed = subst (λ ts. IsListed ts (value s.permitted.1)) (sym permitted) (picks_listed tops t addrs place false s.permitted.1 told first);
  };
  permits = has_picked tops t addrs place false s.permitted.1 first;
  denies = has_picked tops t addrs place true s.denied.1 second;
}

pub freed_parts : (tops : List ℕ) (t : Plain Outcome) (addrs : List ℕ) (place : ℕ) (old new : Parted) → IsPartedAt tops t addrs place old → IsParted new → AreWider old new
    → IsPartedAt tops t addrs place new
freed_parts tops t addrs place old new at parted wider = record {
  tops_are = wider.tops ∙ at.tops_are;
  parted = parted;
  permits = λ x w within e is. wider.permitted x (subst (λ ts. IsWithin ts x) (sym at.tops_are) within) (at.permits x w within e is);
  denies = λ x w within e is. wider.denied x (subst (λ ts. IsWithin ts x) (sym at.tops_are) within) (at.denies x w within e is);
}
