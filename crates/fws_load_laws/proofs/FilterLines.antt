-- The text of a generated filter is that of its lines, and their words are plain.
use Rattle.std.proofs.Common.{◌≡◌, ℕ, zero, suc, ◌+◌, ◌*◌, ◌/◌, ◌%◌, ◌^◌, ◌<◌, ◌≤◌, false, List, [], ◌∷◌, ◌++◌, map, codes, decimal, refl, ap, ap₂, sym, ◌∙◌, append_assoc, arith}
use Rattle.std.specs.Fmt.{digits}
use Rattle.std.specs.List.{flat_map, range_with_len}
use Rattle.fws_load.specs.Load.{filter_text, front_text, rule_line}
use Rattle.fws_num.specs.Numbers.{dotted}
use Rattle.fws_num.specs.Written.{Written, line_bytes, spaced, text_of}
use Rattle.fws_load_laws.proofs.RuleRead.{words_behind}

-- Words

-- a network of 256 addresses
unfoldable pub net_word : ℕ → List ℕ
net_word addr = dotted addr ++ codes "/24"

-- the first address of a rule's source, and of its destination
abbrev pub source_at : ℕ → ℕ
source_at k = 10 * 2 ^ 24 + k * 256

abbrev pub target_at : ℕ → ℕ
target_at k = 172 * 2 ^ 24 + 16 * 2 ^ 16 + 7 * k % 256 * 256

-- the octets of an address
dotted_by : (addr a b c d : ℕ) → b < 256 → c < 256 → d < 256 → addr ≡ a * 2 ^ 24 + b * 2 ^ 16 + c * 2 ^ 8 + d
    → dotted addr ≡ decimal a ++ 46 ∷ decimal b ++ 46 ∷ decimal c ++ 46 ∷ decimal d
dotted_by addr a b c d hb hc hd e =
    let first : addr / 2 ^ 24 ≡ a = omega arith in
    let second : addr / 2 ^ 16 % 256 ≡ b = omega arith in
    let third : addr / 2 ^ 8 % 256 ≡ c = omega arith in
    let fourth : addr % 256 ≡ d = omega arith in
    ap₂ (λ (a b : ℕ). decimal a ++ 46 ∷ decimal b ++ 46 ∷ decimal (addr / 2 ^ 8 % 256) ++ 46 ∷ decimal (addr % 256)) first second
    ∙ ap₂ (λ (c d : ℕ). decimal a ++ 46 ∷ decimal b ++ 46 ∷ decimal c ++ 46 ∷ decimal d) third fourth

-- a rule's source and destination, by the octets that the generator writes
source_word : (k : ℕ) → k < 4000 → net_word (source_at k) ≡ codes "10." ++ (decimal (k / 256) ++ (codes "." ++ (decimal (k % 256) ++ codes ".0/24")))
unfolding net_word digits
source_word k h =
    let high : k / 256 < 256 = omega arith in
    let low : k % 256 < 256 = omega arith in
    let none : 0 < 256 = omega arith in
    let parts : source_at k ≡ 10 * 2 ^ 24 + k / 256 * 2 ^ 16 + k % 256 * 2 ^ 8 + 0 = omega arith in
    ap (λ text. text ++ codes "/24") (dotted_by (source_at k) 10 (k / 256) (k % 256) 0 high low none parts)
    ∙ joined (codes "10.") (decimal (k / 256)) (codes ".") (decimal (k % 256)) (codes ".0") (codes "/24")
  where
    joined : (f a g b h l : List ℕ) → (f ++ a ++ (g ++ b) ++ h) ++ l ≡ f ++ (a ++ (g ++ (b ++ (h ++ l))))
    joined f a g b h l = simp append_assoc refl

target_word : (k : ℕ) → net_word (target_at k) ≡ codes "172.16." ++ (decimal (7 * k % 256) ++ codes ".0/24")
unfolding net_word digits
target_word k =
    let low : 7 * k % 256 < 256 = omega arith in
    let sixteen : 16 < 256 = omega arith in
    let none : 0 < 256 = omega arith in
    let parts : target_at k ≡ 172 * 2 ^ 24 + 16 * 2 ^ 16 + 7 * k % 256 * 2 ^ 8 + 0 = omega arith in
    ap (λ text. text ++ codes "/24") (dotted_by (target_at k) 172 16 (7 * k % 256) 0 sixteen low none parts)
    ∙ joined (codes "172.16.") (decimal (7 * k % 256)) (codes ".0") (codes "/24")
  where
    joined : (f a h l : List ℕ) → (f ++ a ++ h) ++ l ≡ f ++ (a ++ (h ++ l))
    joined f a h l = simp append_assoc refl

-- Lines

abbrev pub rule_words : ℕ → List (List ℕ)
rule_words k = codes "-A" ∷ codes "FORWARD" ∷ words_behind (net_word (source_at k)) (net_word (target_at k)) (decimal (1000 + k))

abbrev pub written : List (List ℕ) → Written
written words = record { indented = false; words = words }

abbrev pub rule_written : ℕ → Written
rule_written k = written (rule_words k)

abbrev pub last_line : List Written
last_line = written (codes "COMMIT" ∷ []) ∷ []

abbrev pub filter_lines : ℕ → List Written
filter_lines n =
    written (codes "*filter" ∷ [])
    ∷ written (codes ":INPUT" ∷ codes "ACCEPT" ∷ codes "[0:0]" ∷ [])
    ∷ written (codes ":FORWARD" ∷ codes "DROP" ∷ codes "[0:0]" ∷ [])
    ∷ written (codes ":OUTPUT" ∷ codes "ACCEPT" ∷ codes "[0:0]" ∷ [])
    ∷ written (codes "-A" ∷ codes "FORWARD" ∷ codes "-m" ∷ codes "state" ∷ codes "--state" ∷ codes "RELATED,ESTABLISHED" ∷ codes "-j" ∷ codes "ACCEPT" ∷ [])
    ∷ (map rule_written (range_with_len 0 n) ++ last_line)

-- the line of a rule is its words with blanks between
rule_same : (k : ℕ) → k < 4000 → rule_line k ≡ line_bytes (rule_written k) ++ 10 ∷ []
rule_same k h =
    let a = decimal (k / 256) in
    let b = decimal (k % 256) in
    let c = decimal (7 * k % 256) in
    let d = decimal (1000 + k) in
    let front = codes "-A FORWARD -s 10." in
    let end = codes " -j ACCEPT" in
    as_pieces front a (codes ".") b (codes ".0/24 -d 172.16.") c (codes ".0/24 -p tcp -m tcp --dport ") d (end ++ 10 ∷ [])
    ∙ sym (as_words front a (codes ".") b (codes ".0/24") (codes " -d 172.16.") c (codes ".0/24") (codes " -p tcp -m tcp --dport ") d end (10 ∷ []))
    ∙ ap₂ (λ (source target : List ℕ). spaced (codes "-A" ∷ codes "FORWARD" ∷ words_behind source target d) ++ 10 ∷ []) (sym (source_word k h)) (sym (target_word k))
  where
    as_pieces : (f a g b h c i d e : List ℕ) → (f ++ a) ++ (g ++ b) ++ (h ++ c) ++ (i ++ d) ++ e ≡ f ++ (a ++ (g ++ (b ++ (h ++ (c ++ (i ++ (d ++ e)))))))
    as_pieces f a g b h c i d e = simp append_assoc refl

    as_words : (f a g b h i c j l d m e : List ℕ)
        → f ++ (((a ++ (g ++ (b ++ h))) ++ (i ++ ((c ++ j) ++ (l ++ (d ++ m))))) ++ e) ≡ f ++ (a ++ (g ++ (b ++ ((h ++ i) ++ (c ++ ((j ++ l) ++ (d ++ (m ++ e))))))))
    as_words f a g b h i c j l d m e = simp append_assoc refl

-- so are the lines of the rules, and the last one
rules_same : (from n : ℕ) → from + n ≤ 4000
    → flat_map rule_line (range_with_len from n) ++ codes "COMMIT" ++ 10 ∷ [] ≡ text_of (map rule_written (range_with_len from n) ++ last_line)
rules_same from zero h = refl
rules_same from (suc n) h =
    let ks : List ℕ = range_with_len (from + 1) n in
    joined (rule_line from) (flat_map rule_line ks) (codes "COMMIT") (10 ∷ [])
    ∙ ap₂ (λ (front behind : List ℕ). front ++ behind) (rule_same from (omega arith)) (rules_same (from + 1) n (omega arith))
    ∙ append_assoc (line_bytes (rule_written from)) (10 ∷ []) (text_of (map rule_written ks ++ last_line))
  where
    joined : (a b c d : List ℕ) → (a ++ b) ++ c ++ d ≡ a ++ (b ++ c ++ d)
    joined a b c d = simp append_assoc refl

pub text_same : (n : ℕ) → n ≤ 4000 → filter_text n ≡ text_of (filter_lines n)
unfolding filter_text
text_same n h = ap (λ (behind : List ℕ). front_text ++ behind) (rules_same 0 n (omega arith))
