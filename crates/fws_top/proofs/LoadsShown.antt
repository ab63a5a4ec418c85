-- Neither text of `load` is refused.
use Rattle.std.proofs.Common.{◌≡◌, ℕ, ◌≤◌, Bool, true, false, cond, ◌&&◌, nat_eq, nat_le, Some, None, List, [], ◌∷◌, length, codes, inl, inr, refl, ap, ◌∙◌, subst, arith}
use Rattle.std.proofs.lemmas.Bool.{and_parts, cases_Bool, eqb-true, leb-true, ne_eqb}
use Rattle.std.specs.List.{list_all}
use Rattle.std.specs.Option.{option_map, option_map_or}
use Rattle.std.specs.Str.{bytes_eq}
use Rattle.fws_load_laws.specs.LoadedFilters.{LoadConfigsAreNotRefused, LoadTextsAreRead, load_config}
use Rattle.fws_load_laws.specs.LoadedSite.{LoadSiteIsRead, load_site}
use Rattle.fws_num.specs.Numbers.{dec_of, digits_value, is_digit}
use Rattle.fws_top.specs.Forms.{load, page_command, unknown}
use Rattle.fws_top.specs.Judged.{Policy, ipt_meant, ipt_named_refusal, ipt_refusal, judged_by, judged_chains}
use Rattle.fws_top.specs.LoadPlans.{LoadWordsAreShown, LoadsAreShown}
use Rattle.fws_top.specs.Plan.{judged, load_text_plan, plan_of, shows, spelled_site}
use Rattle.fws_top.specs.Tables.{loaded}

pub loads_shown : LoadSiteIsRead → LoadTextsAreRead → LoadConfigsAreNotRefused → LoadsAreShown
loads_shown site_read texts_read unrefused n low most =
    let config = load_config n in
    let next = λ (policy : Policy). shows (loaded n load_site policy.walk) in
    ap (λ read. spelled_site (codes "load site") read (λ value. load_text_plan n value (λ policy. shows (loaded n value policy.walk)))) site_read
    ∙ ap (λ read. judged (codes "load text") (judged_by (ipt_refusal load_site) (ipt_meant load_site) read) next) (texts_read load_site n most)
    ∙ ap (λ refusal. judged (codes "load text") (judged_chains (option_map (ipt_named_refusal config.chains) refusal) (ipt_meant load_site config)) next) (unrefused load_site n)

-- a number that is read is within its limit
within : (word : List ℕ) (most n : ℕ) → dec_of word most ≡ Some n → n ≤ most
within word most n spelled =
    let tests = list_all is_digit word && nat_le 1 (length word) && nat_le (length word) 20 in
    let parts = taken (tests && nat_le (digits_value word) most) (digits_value word) n spelled in
    let low : digits_value word ≤ most = leb-true (digits_value word) most (and_parts tests (nat_le (digits_value word) most) parts.0).1 in
    let same : digits_value word ≡ n = parts.1 in
    omega arith
  where
    taken : (b : Bool) (v n : ℕ) → cond b (Some v) None ≡ Some n → (b ≡ true) × (v ≡ n)
    taken true v n e = (refl, cc)
    taken false v n e = absurd cc

-- a number that is read isn't the word that asks for a page
not_help : (word : List ℕ) (most n : ℕ) → dec_of word most ≡ Some n → bytes_eq word (codes "--help") ≡ false
not_help [] most n spelled = refl
not_help (c ∷ rest) most n spelled = elim (cases_Bool (nat_eq c 45)) [
  | inl dash ↦ never n (bytes_eq (c ∷ rest) (codes "--help") ≡ false) (subst (λ k. dec_of (k ∷ rest) most ≡ Some n) (eqb-true c 45 dash) spelled)
  | inr other ↦ ap (λ b. b && bytes_eq rest (codes "-help")) other
]
  where
    never : (n : ℕ) (X : Type 0) → None ≡ Some n → X
    never n X e = absurd cc

pub words_shown : LoadsAreShown → LoadWordsAreShown
words_shown shown word n spelled some =
    let low : 1 ≤ n = omega arith in
    ap (λ b. plan_of (cond b (page_command (codes "load")) (option_map_or (λ n. cond (nat_eq n 0) unknown (load n)) (dec_of word 4000) unknown))) (not_help word 4000 n spelled)
    ∙ ap (λ o. plan_of (option_map_or (λ n. cond (nat_eq n 0) unknown (load n)) o unknown)) spelled
    ∙ ap (λ b. plan_of (cond b unknown (load n))) (ne_eqb n 0 some)
    ∙ shown n low (within word 4000 n spelled)
