-- The text of lines, piece by piece.
use Rattle.std.proofs.Common.{◌≡◌, ℕ, suc, ◌+◌, ◌-◌, ◌<◌, ◌≤◌, List, [], ◌∷◌, ◌++◌, map, length, drop, get_or, codes, refl, ap, sym, ◌∙◌, append_assoc, append-nil, arith}
use Rattle.std.proofs.lemmas.List.{drop_more}
use Rattle.std.specs.List.{range_with_len}
use Rattle.fws_num.specs.Written.{ended, spaced}
use Rattle.fws_net.specs.declared.site.Site.{Site}
use Rattle.fws_ipfw.specs.declared.config.IpfwConfig.{IpfwConfig}
use Rattle.fws_ipfw.specs.declared.config.IpfwNat.{IpfwNat}
use Rattle.fws_ipfw.specs.declared.config.IpfwRule.{IpfwRule}
use Rattle.fws_print.specs.Words.{behind_blanks}
use Rattle.fws_ipfw_print.specs.PrintedText.{comment_between, config_text, head_lines, nat_lines, nat_words, rule_lines, rule_words, sections}
use Rattle.fws_ipfw_print.proofs.LineWords.{spaced_from}

-- Words

pub behind-append : (front behind : List (List ℕ)) → behind_blanks (front ++ behind) ≡ behind_blanks front ++ behind_blanks behind
behind-append [] behind = refl
behind-append (word ∷ front) behind =
    ap (λ text. 32 ∷ word ++ text) (behind-append front behind) ∙ sym (append_assoc (32 ∷ word) (behind_blanks front) (behind_blanks behind))

-- one word more
pub one_put : (old new word : List ℕ) → new ≡ old ++ 32 ∷ word → new ≡ old ++ behind_blanks (word ∷ [])
one_put old new word e = e ∙ ap (λ text. old ++ 32 ∷ text) (sym (append-nil word))

-- words behind those that were put
pub words_put : (out old new : List ℕ) (words more : List (List ℕ)) → old ≡ out ++ behind_blanks words → new ≡ old ++ behind_blanks more → new ≡ out ++ behind_blanks (words ++ more)
words_put out old new words more e k =
    k ∙ ap (λ text. text ++ behind_blanks more) e ∙ append_assoc out (behind_blanks words) (behind_blanks more) ∙ ap (λ text. out ++ text) (sym (behind-append words more))

pub word_put : (out old new : List ℕ) (words : List (List ℕ)) (word : List ℕ) → old ≡ out ++ behind_blanks words → new ≡ old ++ 32 ∷ word → new ≡ out ++ behind_blanks (words ++ word ∷ [])
word_put out old new words word e k = words_put out old new words (word ∷ []) e (one_put old new word k)

-- Lines

pub ended-append : (xs ys : List (List ℕ)) → ended (xs ++ ys) ≡ ended xs ++ ended ys
ended-append [] ys = refl
ended-append (x ∷ xs) ys = ap (λ text. x ++ 10 ∷ text) (ended-append xs ys) ∙ sym (append_assoc x (10 ∷ ended xs) (ended ys))

-- further lines behind those that were put
pub lines_put : (out old new : List ℕ) (lines more : List (List ℕ)) → old ≡ out ++ ended lines → new ≡ old ++ ended more → new ≡ out ++ ended (lines ++ more)
lines_put out old new lines more e k =
    k ∙ ap (λ text. text ++ ended more) e ∙ append_assoc out (ended lines) (ended more) ∙ ap (λ text. out ++ text) (sym (ended-append lines more))

-- the line of a first word and of those behind it
pub line_put : (out a b new first : List ℕ) (words : List (List ℕ)) → a ≡ out ++ first → b ≡ a ++ behind_blanks words → new ≡ b ++ 10 ∷ [] → new ≡ out ++ ended (spaced (first ∷ words) ∷ [])
line_put out a b new first words e1 e2 e3 =
    e3 ∙ ap (λ text. text ++ 10 ∷ []) (e2 ∙ ap (λ text. text ++ behind_blanks words) e1 ∙ append_assoc out first (behind_blanks words))
    ∙ append_assoc out (first ++ behind_blanks words) (10 ∷ [])
    ∙ ap (λ line. out ++ (line ++ 10 ∷ [])) (sym (spaced_from first words))

-- lines of a list, one for each item
pub items_put : {A : Type 0} (line : A → List ℕ) (list : List A) (i : ℕ) (x : A) (out new all : List ℕ) → i < length list → x ≡ get_or list i x → new ≡ out ++ ended (line x ∷ [])
    → out ++ ended (map line (drop i list)) ≡ all → new ++ ended (map line (drop (i + 1) list)) ≡ all
items_put {A} line list i x out new all h is e k =
    let rest = drop (i + 1) list in
    let left : drop i list ≡ x ∷ rest = drop_more list i x h ∙ ap (λ (first : A). first ∷ rest) (sym is) in
    ap (λ text. text ++ ended (map line rest)) e
    ∙ append_assoc out (ended (line x ∷ [])) (ended (map line rest))
    ∙ ap (λ text. out ++ text) (sym (ended-append (line x ∷ []) (map line rest)))
    ∙ ap (λ l. out ++ ended (map line l)) (sym left)
    ∙ k

-- instances behind their comment
pub nats_put : (out old new : List ℕ) (nats : List IpfwNat) → 1 ≤ length nats → old ≡ out ++ ended (codes "# The instances of address translation that rules name." ∷ [])
    → new ≡ old ++ ended (map (λ nat. spaced (nat_words nat)) nats) → new ≡ out ++ ended (nat_lines nats)
nats_put out old new [] some e k = absurd (omega arith)
nats_put out old new (nat ∷ nats) some e k =
    lines_put out old new (codes "# The instances of address translation that rules name." ∷ []) (map (λ nat. spaced (nat_words nat)) (nat ∷ nats)) e k

-- rules, each behind the comment on its section
pub rules_put : (site : Site) (from : ℕ) (rules : List IpfwRule) (i : ℕ) (r : IpfwRule) (out a new all : List ℕ) → i < length rules → r ≡ get_or rules i r
    → a ≡ out ++ ended (comment_between from r.number sections) → new ≡ a ++ ended (spaced (rule_words site r) ∷ []) → out ++ ended (rule_lines site from (drop i rules)) ≡ all
    → new ++ ended (rule_lines site r.number (drop (i + 1) rules)) ≡ all
rules_put site from rules i r out a new all h is e1 e2 k =
    let rest = drop (i + 1) rules in
    let left : drop i rules ≡ r ∷ rest = drop_more rules i r h ∙ ap (λ (first : IpfwRule). first ∷ rest) (sym is) in
    let comment = comment_between from r.number sections in
    let line = spaced (rule_words site r) in
    let later = rule_lines site r.number rest in
    ap (λ text. text ++ ended later) (lines_put out a new comment (line ∷ []) e1 e2)
    ∙ append_assoc out (ended (comment ++ line ∷ [])) (ended later)
    ∙ ap (λ text. out ++ text) (sym (ended-append (comment ++ line ∷ []) later))
    ∙ ap (λ lines. out ++ ended lines) (append_assoc comment (line ∷ []) later)
    ∙ ap (λ l. out ++ ended (rule_lines site from l)) (sym left)
    ∙ k

-- Numbers of a range

pub number_put : (items new all : List ℕ) (n end : ℕ) → n < end → new ≡ items ++ n ∷ [] → items ++ range_with_len n (end - n) ≡ all → new ++ range_with_len (n + 1) (end - (n + 1)) ≡ all
number_put items new all n end h e k =
    let left : end - n ≡ suc (end - (n + 1)) = omega arith in
    ap (λ list. list ++ range_with_len (n + 1) (end - (n + 1))) e
    ∙ append_assoc items (n ∷ []) (range_with_len (n + 1) (end - (n + 1)))
    ∙ ap (λ len. items ++ range_with_len n len) (sym left)
    ∙ k

-- The whole text

pub text_put : (site : Site) (c : IpfwConfig) (head a new : List ℕ) (nats : List IpfwNat) (rules : List IpfwRule) → head ≡ ended head_lines → nats ≡ c.nats → a ≡ head ++ ended (nat_lines nats) → rules ≡ c.rules
    → new ≡ a ++ ended (rule_lines site 0 rules) → new ≡ config_text site c
text_put site c head a new nats rules begun same_nats first same_rules second =
    lines_put [] a new (head_lines ++ nat_lines c.nats) (rule_lines site 0 c.rules)
    (lines_put [] head a head_lines (nat_lines c.nats) begun (first ∙ ap (λ (list : List IpfwNat). head ++ ended (nat_lines list)) same_nats))
    (second ∙ ap (λ (list : List IpfwRule). a ++ ended (rule_lines site 0 list)) same_rules)
