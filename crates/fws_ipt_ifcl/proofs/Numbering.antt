-- The numbers of rules at the places of the rules to which they are unfolded.
use Rattle.std.proofs.Common.{◌≡◌, ℕ, zero, suc, ◌+◌, ◌-◌, ◌<◌, ◌≤◌, Bool, List, [], ◌∷◌, ◌++◌, length, drop, get_or, arith, refl, sym, ap, ◌∙◌}
use Rattle.std.proofs.lemmas.List.{drop-drop, get_or-drop}
use Rattle.std.proofs.Math.Seq.{drop-append_seam}
use Rattle.fws_net.specs.declared.site.Site.{Site}
use Rattle.fws_ifcl.specs.declared.diagram.Rule.{Rule}
use Rattle.fws_ifcl_rules.specs.UsedPlaces.{untold, first_told, TellsOfUses}
use Rattle.fws_ipt.specs.declared.config.IptGo.{IptGo}
use Rattle.fws_ipt.specs.declared.config.IptGo.TheVariants.{Source, Masquerade, Dest, Redirect, Netmap}
use Rattle.fws_ipt.specs.declared.config.IptRule.{IptRule}
use Rattle.fws_ipt.specs.Refusals.{width_of}
use Rattle.fws_ipt_ifcl.specs.declared.side.SideTest.TheVariants.{Each}
use Rattle.fws_ipt_ifcl.specs.Blocks.{unfolded}
use Rattle.fws_ipt_ifcl.specs.Placed.{rules_told}
use Rattle.fws_ipt_ifcl.proofs.Widths.{unfolded_width}

-- at the first place of each rule is its number, the first one n, and at the others is none
abbrev pub AreNumbered : (ℕ → List ℕ) → ℕ → ℕ → ℕ → List IptRule → Type 0
AreNumbered numbers f at n [] = Unit {0}
AreNumbered numbers f at n (r ∷ rs) =
    (numbers at ≡ n ∷ []) × ((i : ℕ) → suc at ≤ i → i < at + width_of f r.go → numbers i ≡ []) × AreNumbered numbers f (at + width_of f r.go) (suc n) rs

some_width : (f : ℕ) (go : IptGo) → 1 ≤ width_of f go
some_width f (Source e) = omega arith
some_width f (Dest e) = omega arith
some_width f (Netmap net) = omega arith
some_width f Masquerade = omega arith
some_width f (Redirect port) = omega arith
some_width f _ = omega arith

pub none_untold : (rules : List Rule) (more : List (List ℕ)) (i : ℕ) → i < length rules → get_or (untold rules ++ more) i [] ≡ []
none_untold [] more i lt = absurd (omega (arith, lt))
none_untold (r ∷ rs) more zero lt = refl
none_untold (r ∷ rs) more (suc i) lt = none_untold rs more i (omega (arith, lt))

first_number : (n : ℕ) (rules : List Rule) (more : List (List ℕ)) → 1 ≤ length rules → get_or (first_told n rules ++ more) 0 [] ≡ n ∷ []
first_number n [] more le = absurd (omega (arith, le))
first_number n (r ∷ rs) more le = refl

none_later : (n : ℕ) (rules : List Rule) (more : List (List ℕ)) (i : ℕ) → 1 ≤ i → i < length rules → get_or (first_told n rules ++ more) i [] ≡ []
none_later n [] more i low high = absurd (omega (arith, high))
none_later n (r ∷ rs) more zero low high = absurd (omega (arith, low))
none_later n (r ∷ rs) more (suc i) low high = none_untold rs more i (omega (arith, high))

pub numbered : TellsOfUses → (site : Site) (on_source : Bool) (numbers : ℕ → List ℕ) (beside : List (List ℕ)) → ((i : ℕ) → numbers i ≡ get_or beside i [])
    → (at n : ℕ) (rules : List IptRule) → drop at beside ≡ rules_told site on_source at n rules → AreNumbered numbers (length site.faces) at n rules
numbered law site on_source numbers beside are at n [] left = tt
numbered law site on_source numbers beside are at n (r ∷ rs) left =
    let w = width_of (length site.faces) r.go in
    let block = unfolded Each site on_source at r.cond r.go in
    let more = rules_told site on_source (at + w) (suc n) rs in
    let wide : length block ≡ w = unfolded_width Each site on_source at r.cond r.go in
    let some : 1 ≤ w = some_width (length site.faces) r.go in
    let many : length (first_told n block) ≡ length block = law.first_many n block in
    let long : length (first_told n block) ≡ w = many ∙ wide in
    let found : (j : ℕ) → numbers (at + j) ≡ get_or (first_told n block ++ more) j [] =
    λ j. are (at + j) ∙ sym (get_or-drop at beside j []) ∙ ap (λ l. get_or l j []) left in
    let here : at ≡ at + 0 = omega arith in (
      ap numbers here ∙ found 0 ∙ first_number n block more (omega (arith, some, wide)),
      λ i low high. after at w i low high numbers (λ j first last. found j ∙ none_later n block more j first (omega (arith, last, wide))),
      numbered law site on_source numbers beside are (at + w) (suc n) rs
          (sym (drop-drop w at beside) ∙ ap (drop w) left ∙ ap (λ k. drop k (first_told n block ++ more)) (sym long) ∙ drop-append_seam (first_told n block) more),
    )
  where
    after : (at w i : ℕ) → suc at ≤ i → i < at + w → (numbers : ℕ → List ℕ) → ((j : ℕ) → 1 ≤ j → j < w → numbers (at + j) ≡ []) → numbers i ≡ []
    after at w i low high numbers none =
        let same : i ≡ at + (i - at) = omega (arith, low) in
        ap numbers same ∙ none (i - at) (omega (arith, low)) (omega (arith, low, high))
