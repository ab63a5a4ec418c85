-- The text of lines, piece by piece.
use Rattle.std.proofs.Common.{◌≡◌, ℕ, ◌+◌, ◌<◌, Bool, true, false, cond, List, [], ◌∷◌, ◌++◌, map, length, drop, get_or, codes, refl, ap, sym, ◌∙◌, append_assoc, append-nil}
use Rattle.std.proofs.lemmas.List.{drop_more}
use Rattle.fws_num.specs.Written.{spaced}
use Rattle.fws_net.specs.declared.site.Site.{Site}
use Rattle.fws_net.specs.SiteSpelling.{lines_text}
use Rattle.fws_ipt.specs.declared.config.IptTable.{IptTable}
use Rattle.fws_ipt.specs.declared.config.IptChain.{IptChain}
use Rattle.fws_ipt.specs.Walk.{is_table}
use Rattle.fws_print.specs.Words.{behind_blanks}
use Rattle.fws_ipt_print.specs.PrintedText.{rule_line, rule_lines}

pub lines_text-append : (front behind : List (List (List ℕ))) → lines_text (front ++ behind) ≡ lines_text front ++ lines_text behind
lines_text-append [] behind = refl
lines_text-append (line ∷ front) behind =
    ap (λ text. spaced line ++ 10 ∷ text) (lines_text-append front behind) ∙ sym (append_assoc (spaced line) (10 ∷ lines_text front) (lines_text behind))

-- further lines behind those that were put
pub lines_put : (out old new : List ℕ) (lines more : List (List (List ℕ))) → old ≡ out ++ lines_text lines → new ≡ old ++ lines_text more → new ≡ out ++ lines_text (lines ++ more)
lines_put out old new lines more e k =
    k ∙ ap (λ text. text ++ lines_text more) e ∙ append_assoc out (lines_text lines) (lines_text more)
    ∙ ap (λ text. out ++ text) (sym (lines_text-append lines more))

-- Words

pub spaced_from : (word : List ℕ) (words : List (List ℕ)) → spaced (word ∷ words) ≡ word ++ behind_blanks words
spaced_from word [] = sym (append-nil word)
spaced_from word (next ∷ words) = ap (λ text. word ++ 32 ∷ text) (spaced_from next words)

behind-append : (front behind : List (List ℕ)) → behind_blanks (front ++ behind) ≡ behind_blanks front ++ behind_blanks behind
behind-append [] behind = refl
behind-append (word ∷ front) behind =
    ap (λ text. 32 ∷ word ++ text) (behind-append front behind) ∙ sym (append_assoc (32 ∷ word) (behind_blanks front) (behind_blanks behind))

five : (o a n l c e : List ℕ) → o ++ a ++ n ++ l ++ c ++ e ≡ o ++ (a ++ (n ++ (l ++ c)) ++ e)
five o a n l c e = simp append_assoc refl

-- the line of a rule
pub rule_put : (out a b c d new name : List ℕ) (lits act : List (List ℕ)) → a ≡ out ++ codes "-A" → b ≡ a ++ 32 ∷ name → c ≡ b ++ behind_blanks lits → d ≡ c ++ behind_blanks act
    → new ≡ d ++ codes "\n" → new ≡ out ++ lines_text ((codes "-A" ∷ name ∷ (lits ++ act)) ∷ [])
rule_put out a b c d new name lits act e1 e2 e3 e4 e5 =
    e5 ∙ ap (λ text. text ++ 10 ∷ []) (e4 ∙ ap (λ text. text ++ behind_blanks act) (e3 ∙ ap (λ text. text ++ behind_blanks lits) (e2 ∙ ap (λ text. text ++ 32 ∷ name) e1)))
    ∙ five out (codes "-A") (32 ∷ name) (behind_blanks lits) (behind_blanks act) (10 ∷ [])
    ∙ ap (λ text. out ++ (text ++ 10 ∷ []))
    (sym (spaced_from (codes "-A") (name ∷ (lits ++ act)) ∙ ap (λ text. codes "-A" ++ (32 ∷ name ++ text)) (behind-append lits act)))

-- Rules, chain by chain

rules_split : (site : Site) (chains : List IptChain) (table : IptTable) (chain : IptChain) (rest : List IptChain)
    → rule_lines site chains table (chain ∷ rest) ≡ rule_lines site chains table (chain ∷ []) ++ rule_lines site chains table rest
rules_split site chains table chain rest =
    let own = map (rule_line site chains chain.name) chain.rules in
    let others = rule_lines site chains table rest in
    split (is_table table chain.table) own others
  where
    split : (b : Bool) (own others : List (List (List ℕ))) → cond b (own ++ others) others ≡ cond b (own ++ []) [] ++ others
    split true own others = ap (λ list. list ++ others) (sym (append-nil own))
    split false own others = refl

pub rules_more : (site : Site) (chains : List IptChain) (table : IptTable) (list : List IptChain) (i : ℕ) (chain : IptChain) (out new all : List ℕ) → i < length list → chain ≡ get_or list i chain
    → new ≡ out ++ lines_text (rule_lines site chains table (chain ∷ [])) → out ++ lines_text (rule_lines site chains table (drop i list)) ≡ all
    → new ++ lines_text (rule_lines site chains table (drop (i + 1) list)) ≡ all
rules_more site chains table list i chain out new all h is e k =
    let rest = drop (i + 1) list in
    let left : drop i list ≡ chain ∷ rest = drop_more list i chain h ∙ ap (λ (first : IptChain). first ∷ rest) (sym is) in
    ap (λ text. text ++ lines_text (rule_lines site chains table rest)) e
    ∙ append_assoc out (lines_text (rule_lines site chains table (chain ∷ []))) (lines_text (rule_lines site chains table rest))
    ∙ ap (λ text. out ++ text) (sym (lines_text-append (rule_lines site chains table (chain ∷ [])) (rule_lines site chains table rest)))
    ∙ ap (λ lines. out ++ lines_text lines) (sym (rules_split site chains table chain rest))
    ∙ ap (λ list. out ++ lines_text (rule_lines site chains table list)) (sym left)
    ∙ k

-- a module, its option and a word
pub word_put : (out a new kind option word : List ℕ) → a ≡ out ++ behind_blanks (codes "-m" ∷ kind ∷ option ∷ []) → new ≡ a ++ 32 ∷ word
    → new ≡ out ++ behind_blanks (codes "-m" ∷ kind ∷ option ∷ word ∷ [])
word_put out a new kind option word e k =
    let front = codes "-m" ∷ kind ∷ option ∷ [] in
    k ∙ ap (λ text. text ++ 32 ∷ word) e ∙ append_assoc out (behind_blanks front) (32 ∷ word)
    ∙ ap (λ text. out ++ (behind_blanks front ++ text)) (sym (append-nil (32 ∷ word)))
    ∙ ap (λ text. out ++ text) (sym (behind-append front (word ∷ [])))

pub value_put : (out a b new kind option word : List ℕ) → a ≡ out ++ behind_blanks (codes "-m" ∷ kind ∷ option ∷ []) → b ≡ a ++ codes " " → new ≡ b ++ word
    → new ≡ out ++ behind_blanks (codes "-m" ∷ kind ∷ option ∷ word ∷ [])
value_put out a b new kind option word e1 e2 e3 =
    word_put out a new kind option word e1 (e3 ∙ ap (λ text. text ++ word) e2 ∙ append_assoc a (32 ∷ []) word)
