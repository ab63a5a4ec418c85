-- A configuration whose tags are numbered as they were gathered.
use Rattle.std.proofs.Common.{◌≡◌, ℕ, Some, option_and_then, List, [], ◌∷◌, length, arith, map, refl, sym, ap, ◌∙◌, subst, true}
use Rattle.fws_iv.specs.declared.iv.Iv.{Iv}
use Rattle.fws_pf.specs.declared.config.PfConfig.{PfConfig}
use Rattle.fws_pf.specs.declared.config.PfNat.{PfNat}
use Rattle.fws_pf.specs.declared.config.PfRule.{PfRule}
use Rattle.fws_pf_print.specs.Printable.{all_tags, are_named, behind_rules, behind_translations}
use Rattle.fws_pf_put.specs.Renumbered.{Gathers, HasAllTags, IsRenumbered, RenamedWalksAreSame, behind_all, place_in, renamed, renamed_nat, renamed_rule}
use Rattle.fws_pf_put.proofs.Numbering.{both_gathered, nothing_more}
use Rattle.fws_pf_put.proofs.Reprinted.{all_printed, same_catches, same_tracks}
use Rattle.fws_pf_put.proofs.SameWalks.{places_apart}

pub tags_gathered : (c : PfConfig) (none first second tags : List ℕ) (rdr nat : List PfNat) (filter : List PfRule) → none ≡ [] → rdr ≡ c.rdr → nat ≡ c.nat → filter ≡ c.filter
    → Gathers none first (λ f known. behind_translations (map (renamed_nat f) rdr) known)
    → Gathers first second (λ f known. behind_translations (map (renamed_nat f) nat) known)
    → Gathers second tags (λ f known. behind_rules (map (renamed_rule f) filter) known)
    → HasAllTags c tags
tags_gathered c none first second tags rdr nat filter empty same_rdr same_nat same_filter one two three =
    let one_of : Gathers none first (λ f known. behind_translations (map (renamed_nat f) c.rdr) known) =
    subst (λ (l : List PfNat). Gathers none first (λ f known. behind_translations (map (renamed_nat f) l) known)) same_rdr one in
    let two_of : Gathers first second (λ f known. behind_translations (map (renamed_nat f) c.nat) known) =
    subst (λ (l : List PfNat). Gathers first second (λ f known. behind_translations (map (renamed_nat f) l) known)) same_nat two in
    let three_of : Gathers second tags (λ f known. behind_rules (map (renamed_rule f) c.filter) known) =
    subst (λ (l : List PfRule). Gathers second tags (λ f known. behind_rules (map (renamed_rule f) l) known)) same_filter three in
    let both = both_gathered none first second (λ f known. behind_translations (map (renamed_nat f) c.rdr) known) (λ f known. behind_translations (map (renamed_nat f) c.nat) known) one_of two_of in
    let all = both_gathered none second tags (λ f known. option_and_then (behind_translations (map (renamed_nat f) c.nat)) (behind_translations (map (renamed_nat f) c.rdr) known))
    (λ f known. behind_rules (map (renamed_rule f) c.filter) known) both three_of in
    subst (λ (l : List ℕ). Gathers l tags (behind_all c)) empty all

pub renewed : (old : PfConfig) (skip : List Iv) (rdr nat : List PfNat) (filter : List PfRule) (names : List (List ℕ)) (tags : List ℕ) → RenamedWalksAreSame → HasAllTags old tags
    → are_named 0 names ≡ true → length names ≡ length tags
    → skip ≡ old.skip → rdr ≡ map (renamed_nat (place_in tags)) old.rdr → nat ≡ map (renamed_nat (place_in tags)) old.nat → filter ≡ map (renamed_rule (place_in tags)) old.filter
    → IsRenumbered old (record { skip = skip; rdr = rdr; nat = nat; filter = filter; tags = names })
renewed old skip rdr nat filter names tags law all named size same_skip same_rdr same_nat same_filter =
    let counted : all_tags (renamed (place_in tags) names old) ≡ Some (length tags) =
    ap (λ l. behind_all old (place_in l) 0) (nothing_more tags) ∙ all.counts [] in
    let it : IsRenumbered old (renamed (place_in tags) names old) = record {
      same = λ site p k. law (place_in tags) names old (places_apart tags) site p k;
      printable = λ site printed. all_printed (place_in tags) names old (length tags) named size counted site printed;
      skip = refl;
      catches = λ h. same_catches (place_in tags) old.filter ∙ h;
      tracks = λ h. same_tracks (place_in tags) old.filter ∙ h;
    } in
    let new : PfConfig = record { skip = skip; rdr = rdr; nat = nat; filter = filter; tags = names } in
    let is : new ≡ renamed (place_in tags) names old = λ i. record { skip = same_skip i; rdr = same_rdr i; nat = same_nat i; filter = same_filter i; tags = names } in
    subst (IsRenumbered old) (sym is) it

pub empty_list : (tags : List ℕ) → length tags ≡ 0 → tags ≡ []
empty_list [] h = refl
empty_list (tag ∷ tags) h = absurd (omega (arith, h))
