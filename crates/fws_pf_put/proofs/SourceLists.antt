-- The translations of sources, one state behind the other.
use Rattle.std.proofs.Common.{◌≡◌, ◌≢◌, ℕ, ◌+◌, ◌<◌, Bool, true, false, ◌||◌, nat_eq, Option, Some, None, List, [], ◌∷◌, ◌++◌, arith, refl, sym, ap, ◌∙◌, subst}
use Rattle.std.proofs.lemmas.Bool.{and_from, eq-eqb, eqb-true, false≢true, ne_eqb}
use Rattle.std.proofs.lemmas.List.Folds.{find-append, list_all-append}
use Rattle.std.specs.List.{list_all, list_any}
use Rattle.std.specs.Option.{option_or}
use Rattle.std.specs.Prelude.{MatchOption}
use Rattle.fws_iv.specs.declared.iv.Iv.{Iv}
use Rattle.fws_net.specs.declared.outcome.End.{End}
use Rattle.fws_net.specs.declared.outcome.Rewrite.{Rewrite}
use Rattle.fws_net.specs.declared.site.Site.{Site}
use Rattle.fws_net.specs.declared.transit.Transit.{Transit}
use Rattle.fws_net.specs.Conditions.{holds}
use Rattle.fws_pf.specs.declared.config.PfNat.{PfNat}
use Rattle.fws_pf.specs.Walk.{chosen, view_on}
use Rattle.fws_pf_print.specs.Printable.{is_printed_translation}
use Rattle.fws_pf_put.specs.Sources.{AreSources, IsSourceBlock, IsWritable, WritesSource}

none_is : {X : Type 0} {x : X} → None ≡ Some x → ⊥
none_is h = cc

some_is : {X : Type 0} {x y : X} → Some x ≡ Some y → x ≡ y
some_is h = cc

pub nil_behind : (nats : List PfNat) → nats ++ [] ≡ nats
nil_behind [] = refl
nil_behind (nat ∷ nats) = ap (λ l. nat ∷ l) (nil_behind nats)

pub no_sources : (written : ℕ → Option Rewrite) (ends : List End) (sets : List (List Iv)) → AreSources written ends sets 0 []
no_sources written ends sets = record {
  printed = λ site. refl;
  others = λ site t none. refl;
  own = λ site t k w low. absurd (omega (arith, low));
}

module _ (written : ℕ → Option Rewrite) (ends : List End) (sets : List (List Iv)) (k : ℕ) (block more : List PfNat) (are : AreSources written ends sets k block) where
  -- a tag that writes nothing
  none_more : written k ≡ None → more ≡ [] → AreSources written ends sets (k + 1) (block ++ more)
  none_more none empty = subst (AreSources written ends sets (k + 1)) (sym (ap (λ l. block ++ l) empty ∙ nil_behind block)) (record {
    printed = are.printed;
    others = λ site t lacks. are.others site t (λ j low. lacks j (omega (arith, low)));
    own = λ site t j w low is tags writable.
        are.own site t j w (below j w low is) is tags writable;
  }) where
    below : (j : ℕ) (w : Rewrite) → j < k + 1 → written j ≡ Some w → j < k
    below j w low is =
        let other : j ≢ k = λ same. none_is (sym none ∙ ap written (sym same) ∙ is) in
        omega (arith, low, other)

  chosen_both : (site : Site) (t : Transit) → chosen site true (block ++ more) t ≡ option_or (chosen site true block t) (chosen site true more t)
  chosen_both site t = find-append (λ (nat : PfNat). holds nat.cond (view_on site true t)) block more

  ahead : (src : Option End) (site : Site) (t : Transit) → WritesSource src (chosen site true block t) → WritesSource src (chosen site true (block ++ more) t)
  ahead src site t w = record {
    nat = w.nat;
    is = chosen_both site t ∙ ap (λ o. option_or o (chosen site true more t)) w.is;
    past = w.past;
    tag = w.tag;
    to = w.to;
  }

  past_it : (src : Option End) (site : Site) (t : Transit) → chosen site true block t ≡ None → WritesSource src (chosen site true more t) → WritesSource src (chosen site true (block ++ more) t)
  past_it src site t none w = record {
    nat = w.nat;
    is = chosen_both site t ∙ ap (λ o. option_or o (chosen site true more t)) none ∙ w.is;
    past = w.past;
    tag = w.tag;
    to = w.to;
  }

  other_tag : (j : ℕ) (tags : List ℕ) → j < k → tags ≡ k ∷ [] → list_any (nat_eq j) tags ≡ false
  other_tag j tags low is =
      let other : j ≢ k = omega (arith, low) in
      ap (list_any (nat_eq j)) is ∙ ap (λ b. b || false) (ne_eqb j k other)

  some_more : (v : Rewrite) → written k ≡ Some v → IsSourceBlock ends sets k v.src more → AreSources written ends sets (k + 1) (block ++ more)
  some_more v at b = record {
    printed = λ site.
        list_all-append (is_printed_translation site false) block more
        ∙ and_from (list_all (is_printed_translation site false) block) (list_all (is_printed_translation site false) more) (are.printed site) (b.printed site);
    others = λ site t lacks.
        chosen_both site t
        ∙ ap (λ o. option_or o (chosen site true more t)) (are.others site t (λ j low. lacks j (omega (arith, low))))
        ∙ b.others site t (lacks k (omega arith));
    own = λ site t j w low is tags writable. by_tag site t j w low is tags writable (nat_eq j k) refl;
  } where
    by_tag : (site : Site) (t : Transit) (j : ℕ) (w : Rewrite) → j < k + 1 → written j ≡ Some w → t.tags ≡ j ∷ [] → IsWritable ends sets w.src t.packet.src
        → (here : Bool) → nat_eq j k ≡ here → WritesSource w.src (chosen site true (block ++ more) t)
    by_tag site t j w low is tags writable true here =
        let same : j ≡ k = eqb-true j k here in
        let it : w ≡ v = some_is (sym is ∙ ap written same ∙ at) in
        let own_tags : t.tags ≡ k ∷ [] = tags ∙ ap (λ n. n ∷ []) same in
        past_it w.src site t (are.others site t (λ i below. other_tag i t.tags below own_tags))
        (subst (λ (u : Rewrite). WritesSource u.src (chosen site true more t)) (sym it)
        (b.own site t own_tags (subst (λ (u : Rewrite). IsWritable ends sets u.src t.packet.src) it writable)))
    by_tag site t j w low is tags writable false off =
        let below : j < k = before j low off in
        ahead w.src site t (are.own site t j w below is tags writable) where
          before : (j : ℕ) → j < k + 1 → nat_eq j k ≡ false → j < k
          before j low off =
              let other : j ≢ k = λ same. false≢true (sym off ∙ eq-eqb j k same) in
              omega (arith, low, other)

  pub sources_more : MatchOption (written k) (more ≡ []) (λ (w : Rewrite). IsSourceBlock ends sets k w.src more) → AreSources written ends sets (k + 1) (block ++ more)
  sources_more put = by_written (written k) refl put where
    by_written : (o : Option Rewrite) → written k ≡ o → MatchOption o (more ≡ []) (λ (w : Rewrite). IsSourceBlock ends sets k w.src more) → AreSources written ends sets (k + 1) (block ++ more)
    by_written None none put = none_more none put
    by_written (Some v) at put = some_more v at put
