-- The text of lines, piece by piece.
use Rattle.std.proofs.Common.{◌≡◌, ℕ, suc, ◌+◌, ◌-◌, ◌<◌, ◌≤◌, cond, true, false, Bool, Option, Some, None, List, [], ◌∷◌, ◌++◌, map, length, drop, get_or, codes, refl, ap, sym, ◌∙◌, append_assoc, append-nil, arith}
use Rattle.std.proofs.lemmas.List.{drop_more}
use Rattle.std.specs.List.{find, range_with_len}
use Rattle.std.specs.Option.{option_map_or}
use Rattle.fws_num.specs.Written.{ended, spaced}
use Rattle.fws_iv.specs.declared.iv.Iv.{Iv}
use Rattle.fws_net.specs.declared.outcome.End.{End}
use Rattle.fws_net.specs.declared.site.Site.{Site}
use Rattle.fws_pf.specs.declared.config.PfConfig.{PfConfig}
use Rattle.fws_pf.specs.declared.config.PfNat.{PfNat}
use Rattle.fws_pf.specs.declared.config.PfRule.{PfRule}
use Rattle.fws_print.specs.Sets.{is_network}
use Rattle.fws_print.specs.Words.{behind_blanks}
use Rattle.fws_pf_print.specs.PrintedText.{begin_words, config_text, filter_comment, head_lines, rule_lines, section, translation_lines, translations_comment, verb_word}
use Rattle.fws_pf_print.proofs.LineWords.{spaced_from}

-- Lines

pub ended-append : (xs ys : List (List ℕ)) → ended (xs ++ ys) ≡ ended xs ++ ended ys
ended-append [] ys = refl
ended-append (x ∷ xs) ys = ap (λ text. x ++ 10 ∷ text) (ended-append xs ys) ∙ sym (append_assoc x (10 ∷ ended xs) (ended ys))

-- further lines behind those that were put
pub lines_put : (out old new : List ℕ) (lines more : List (List ℕ)) → old ≡ out ++ ended lines → new ≡ old ++ ended more → new ≡ out ++ ended (lines ++ more)
lines_put out old new lines more e k =
    k ∙ ap (λ text. text ++ ended more) e ∙ append_assoc out (ended lines) (ended more) ∙ ap (λ text. out ++ text) (sym (ended-append lines more))

-- the line of a first word and of those behind it
pub line_put : (out a b new first : List ℕ) (words : List (List ℕ)) → a ≡ out ++ first → b ≡ a ++ behind_blanks words → new ≡ b ++ 10 ∷ [] → new ≡ out ++ ended (spaced (first ∷ words) ∷ [])
line_put out a b new first words e1 e2 e3 =
    e3 ∙ ap (λ text. text ++ 10 ∷ []) (e2 ∙ ap (λ text. text ++ behind_blanks words) e1 ∙ append_assoc out first (behind_blanks words))
    ∙ append_assoc out (first ++ behind_blanks words) (10 ∷ [])
    ∙ ap (λ line. out ++ (line ++ 10 ∷ [])) (sym (spaced_from first words))

-- lines of a list, one for each item
pub items_put : {A : Type 0} (line : A → List ℕ) (list : List A) (i : ℕ) (x : A) (out new all : List ℕ) → i < length list → x ≡ get_or list i x → new ≡ out ++ ended (line x ∷ [])
    → out ++ ended (map line (drop i list)) ≡ all → new ++ ended (map line (drop (i + 1) list)) ≡ all
items_put {A} line list i x out new all h is e k =
    let rest = drop (i + 1) list in
    let left : drop i list ≡ x ∷ rest = drop_more list i x h ∙ ap (λ (first : A). first ∷ rest) (sym is) in
    ap (λ text. text ++ ended (map line rest)) e
    ∙ append_assoc out (ended (line x ∷ [])) (ended (map line rest))
    ∙ ap (λ text. out ++ text) (sym (ended-append (line x ∷ []) (map line rest)))
    ∙ ap (λ l. out ++ ended (map line l)) (sym left)
    ∙ k

-- the line of a translation, which may begin with `no`
pub translation_put : (redirects : Bool) (to : Option End) (out a b d new : List ℕ) (words : List (List ℕ)) → a ≡ out ++ option_map_or (λ e. []) to (codes "no ") → b ≡ a ++ verb_word redirects → d ≡ b ++ behind_blanks words
    → new ≡ d ++ 10 ∷ [] → new ≡ out ++ ended (spaced (begin_words redirects to ++ words) ∷ [])
translation_put redirects (Some e) out a b d new words e1 e2 e3 e4 = line_put out b d new (verb_word redirects) words (e2 ∙ ap (λ (text : List ℕ). text ++ verb_word redirects) (e1 ∙ append-nil out)) e3 e4
translation_put redirects None out a b d new words e1 e2 e3 e4 =
    line_put out (out ++ codes "no") d new (codes "no") (verb_word redirects ∷ words) refl
    (e3 ∙ ap (λ (text : List ℕ). text ++ behind_blanks words) (e2 ∙ ap (λ (text : List ℕ). text ++ verb_word redirects) e1)
    ∙ moved (verb_word redirects) (behind_blanks words))
    e4
  where
    moved : (verb rest : List ℕ) → ((out ++ codes "no ") ++ verb) ++ rest ≡ (out ++ codes "no") ++ (32 ∷ verb ++ rest)
    moved verb rest = append_assoc (out ++ codes "no ") verb rest ∙ append_assoc out (codes "no ") (verb ++ rest) ∙ sym (append_assoc out (codes "no") (32 ∷ verb ++ rest))

-- lines behind their comment
pub section_put : {A : Type 0} (comment : List ℕ) (line : A → List ℕ) (items : List A) (out old new : List ℕ) → 1 ≤ length items → old ≡ out ++ ended (comment ∷ []) → new ≡ old ++ ended (map line items)
    → new ≡ out ++ ended (section comment (map line items))
section_put comment line [] out old new some e k = absurd (omega arith)
section_put comment line (x ∷ items) out old new some e k = lines_put out old new (comment ∷ []) (map line (x ∷ items)) e k

-- one length after another is tried
find-range : (p : ℕ → Bool) (n : ℕ) → n < 33 → find p (range_with_len n (33 - n)) ≡ cond (p n) (Some n) (find p (range_with_len (n + 1) (33 - (n + 1))))
find-range p n h = let e : 33 - n ≡ suc (33 - (n + 1)) = omega arith in rw e refl

-- a network that is found, or is yet to be found
pub found : (iv : Iv) (n : ℕ) (o : Option ℕ) → n < 33 → is_network n iv ≡ true → find (λ m. is_network m iv) (range_with_len n (33 - n)) ≡ o → Some n ≡ o
found iv n o h t g = sym (rw t at (find-range (λ m. is_network m iv) n h)) ∙ g

pub passed : (iv : Iv) (n : ℕ) (o : Option ℕ) → n < 33 → is_network n iv ≡ false → find (λ m. is_network m iv) (range_with_len n (33 - n)) ≡ o
    → find (λ m. is_network m iv) (range_with_len (n + 1) (33 - (n + 1))) ≡ o
passed iv n o h t g = sym (rw t at (find-range (λ m. is_network m iv) n h)) ∙ g

-- where no network is found
pub none_found : (iv : Iv) (n : ℕ) (o : Option ℕ) → 33 ≤ n → find (λ m. is_network m iv) (range_with_len n (33 - n)) ≡ o → None ≡ o
none_found iv n o h g = (let end : 33 - n ≡ 0 = omega arith in ap (λ k. find (λ m. is_network m iv) (range_with_len n k)) (sym end) ∙ g)

-- The whole text

pub text_put : (site : Site) (c : PfConfig) (head a b new : List ℕ) (rdr nat : List PfNat) (filter : List PfRule) → head ≡ ended head_lines → rdr ≡ c.rdr
    → a ≡ head ++ ended (section (translations_comment true) (translation_lines site true rdr)) → nat ≡ c.nat → b ≡ a ++ ended (section (translations_comment false) (translation_lines site false nat)) → filter ≡ c.filter
    → new ≡ b ++ ended (section filter_comment (rule_lines site filter)) → new ≡ config_text site c
text_put site c head a b new rdr nat filter e0 r1 e1 r2 e2 r3 e3 =
    let s1 = section (translations_comment true) (translation_lines site true c.rdr) in
    let s2 = section (translations_comment false) (translation_lines site false c.nat) in
    let s3 = section filter_comment (rule_lines site c.filter) in
    let first = lines_put [] head a head_lines s1 e0 (e1 ∙ ap (λ (l : List PfNat). head ++ ended (section (translations_comment true) (translation_lines site true l))) r1) in
    let second = lines_put [] a b (head_lines ++ s1) s2 first (e2 ∙ ap (λ (l : List PfNat). a ++ ended (section (translations_comment false) (translation_lines site false l))) r2) in
    lines_put [] b new ((head_lines ++ s1) ++ s2) s3 second (e3 ∙ ap (λ (l : List PfRule). b ++ ended (section filter_comment (rule_lines site l))) r3)
    ∙ ap ended (append_assoc (head_lines ++ s1) s2 s3 ∙ append_assoc head_lines s1 (s2 ++ s3))
