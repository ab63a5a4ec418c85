-- The text of lines, piece by piece.
use Rattle.std.proofs.Common.{◌≡◌, ℕ, suc, ◌+◌, ◌-◌, ◌<◌, ◌≤◌, true, false, Bool, ◌||◌, List, [], ◌∷◌, ◌++◌, map, length, drop, get_or, codes, refl, ap, sym, ◌∙◌, append_assoc, append-nil, arith}
use Rattle.std.proofs.lemmas.Bool.{cond_both}
use Rattle.std.proofs.lemmas.List.{drop_more}
use Rattle.std.specs.List.{flat_map, list_any, range_with_len}
use Rattle.fws_num.specs.Written.{ended, spaced}
use Rattle.fws_iv.specs.declared.iv.Iv.{Iv}
use Rattle.fws_net.specs.declared.site.Iface.{Iface}
use Rattle.fws_net.specs.declared.site.Site.{Site}
use Rattle.fws_ios.specs.declared.config.IosConfig.{IosConfig}
use Rattle.fws_ios.specs.declared.config.IosEntry.{IosEntry}
use Rattle.fws_ios.specs.declared.config.IosGroup.{IosGroup}
use Rattle.fws_ios.specs.declared.config.IosList.{IosList}
use Rattle.fws_ios.specs.declared.config.IosNat.{IosNat}
use Rattle.fws_print.specs.Sets.{is_network}
use Rattle.fws_ios_print.specs.Printable.{is_state, state_name, tested as tested_at}
use Rattle.fws_print.specs.Words.{behind_blanks}
use Rattle.fws_ios_print.specs.PrintedText.{action_word, addresses_words, config_text, entry_words, face_lines, face_names, group_lines, groups_behind, head_lines, inner_line, interface_lines, interfaces_lines, list_lines, lists_comment, nat_lines, nats_comment, nats_lines, options_words, ports_words, protocol_word, reflect_words, section, side_lines, test_words}
use Rattle.fws_ios_print.proofs.LinesTaken.{spaced_from}

-- Lines

pub ended-append : (xs ys : List (List ℕ)) → ended (xs ++ ys) ≡ ended xs ++ ended ys
ended-append [] ys = refl
ended-append (x ∷ xs) ys = ap (λ text. x ++ 10 ∷ text) (ended-append xs ys) ∙ sym (append_assoc x (10 ∷ ended xs) (ended ys))

-- further lines behind those that were put
pub lines_put : (out old new : List ℕ) (lines more : List (List ℕ)) → old ≡ out ++ ended lines → new ≡ old ++ ended more → new ≡ out ++ ended (lines ++ more)
lines_put out old new lines more e k =
    k ∙ ap (λ text. text ++ ended more) e ∙ append_assoc out (ended lines) (ended more) ∙ ap (λ text. out ++ text) (sym (ended-append lines more))

-- lines of a list, some for each item
pub pieces_put : {A : Type 0} (lines : A → List (List ℕ)) (list : List A) (i : ℕ) (x : A) (out new all : List ℕ) → i < length list → x ≡ get_or list i x → new ≡ out ++ ended (lines x)
    → out ++ ended (flat_map lines (drop i list)) ≡ all → new ++ ended (flat_map lines (drop (i + 1) list)) ≡ all
pieces_put {A} lines list i x out new all h is e k =
    let rest = drop (i + 1) list in
    let left : drop i list ≡ x ∷ rest = drop_more list i x h ∙ ap (λ (first : A). first ∷ rest) (sym is) in
    ap (λ text. text ++ ended (flat_map lines rest)) e
    ∙ append_assoc out (ended (lines x)) (ended (flat_map lines rest))
    ∙ ap (λ text. out ++ text) (sym (ended-append (lines x) (flat_map lines rest)))
    ∙ ap (λ l. out ++ ended (flat_map lines l)) (sym left)
    ∙ k

-- one line for each item
pub items_put : {A : Type 0} (line : A → List ℕ) (list : List A) (i : ℕ) (x : A) (out new all : List ℕ) → i < length list → x ≡ get_or list i x → new ≡ out ++ ended (line x ∷ [])
    → out ++ ended (map line (drop i list)) ≡ all → new ++ ended (map line (drop (i + 1) list)) ≡ all
items_put {A} line list i x out new all h is e k =
    let rest = drop (i + 1) list in
    let left : drop i list ≡ x ∷ rest = drop_more list i x h ∙ ap (λ (first : A). first ∷ rest) (sym is) in
    ap (λ text. text ++ ended (map line rest)) e
    ∙ append_assoc out (ended (line x ∷ [])) (ended (map line rest))
    ∙ ap (λ text. out ++ text) (sym (ended-append (line x ∷ []) (map line rest)))
    ∙ ap (λ l. out ++ ended (map line l)) (sym left)
    ∙ k

-- the line of a first word and of those behind it
pub line_put : (out a b new first : List ℕ) (words : List (List ℕ)) → a ≡ out ++ first → b ≡ a ++ behind_blanks words → new ≡ b ++ 10 ∷ [] → new ≡ out ++ ended (spaced (first ∷ words) ∷ [])
line_put out a b new first words e1 e2 e3 =
    e3 ∙ ap (λ text. text ++ 10 ∷ []) (e2 ∙ ap (λ text. text ++ behind_blanks words) e1 ∙ append_assoc out first (behind_blanks words))
    ∙ append_assoc out (first ++ behind_blanks words) (10 ∷ [])
    ∙ ap (λ line. out ++ (line ++ 10 ∷ [])) (sym (spaced_from first words))

-- a line that begins with a blank, as words that each stand behind one
pub inner_put : (out a new word : List ℕ) (words : List (List ℕ)) → a ≡ out ++ behind_blanks (word ∷ words) → new ≡ a ++ 10 ∷ [] → new ≡ out ++ ended (inner_line (word ∷ words) ∷ [])
inner_put out a new word words e k =
    k ∙ ap (λ text. text ++ 10 ∷ []) e ∙ append_assoc out (32 ∷ word ++ behind_blanks words) (10 ∷ []) ∙ ap (λ line. out ++ (32 ∷ line ++ 10 ∷ [])) (sym (spaced_from word words))

abbrev IsLine : List ℕ → List ℕ → List ℕ → List (List ℕ) → Type 0
IsLine out a new words = a ≡ out ++ behind_blanks words → new ≡ out ++ ended (inner_line words ∷ [])

pub entry_put : (entry : IosEntry) (out a new : List ℕ) → a ≡ out ++ behind_blanks (entry_words entry) → new ≡ a ++ 10 ∷ [] → new ≡ out ++ ended (inner_line (entry_words entry) ∷ [])
entry_put entry out a new e k =
    cond_both (is_state entry.cond) (codes "evaluate" ∷ state_name ∷ []) (test_words entry) (IsLine out a new)
    (λ t e. inner_put out a new (codes "evaluate") (state_name ∷ []) e k) (λ t e. tested e) e
  where
    tested : a ≡ out ++ behind_blanks (test_words entry) → new ≡ out ++ ended (inner_line (test_words entry) ∷ [])
    tested e =
        inner_put out a new (action_word entry.permit)
        (protocol_word (tested_at 0 entry.cond) ∷ addresses_words (tested_at 1 entry.cond)
        ++ (ports_words (tested_at 2 entry.cond) ++ (addresses_words (tested_at 3 entry.cond) ++ (ports_words (tested_at 4 entry.cond) ++ (options_words entry.cond ++ reflect_words entry.reflect)))))
        e k

-- lines behind their comment
pub section_put : {A : Type 0} (comment : List ℕ) (items : List A) (lines : List (List ℕ)) (out old new : List ℕ) → 1 ≤ length items → old ≡ out ++ ended (comment ∷ []) → new ≡ old ++ ended lines
    → new ≡ out ++ ended (section comment items lines)
section_put comment [] lines out old new some e k = absurd (omega arith)
section_put comment (x ∷ items) lines out old new some e k = lines_put out old new (comment ∷ []) lines e k

-- one length after another is tried
any-range : (p : ℕ → Bool) (n : ℕ) → n < 33 → list_any p (range_with_len n (33 - n)) ≡ (p n || list_any p (range_with_len (n + 1) (33 - (n + 1))))
any-range p n h = let e : 33 - n ≡ suc (33 - (n + 1)) = omega arith in rw e refl

-- a length that fits, or is yet to be found
pub found : (iv : Iv) (n : ℕ) (o : Bool) → n < 33 → is_network n iv ≡ true → list_any (λ m. is_network m iv) (range_with_len n (33 - n)) ≡ o → true ≡ o
found iv n o h t g = sym (rw t at (any-range (λ m. is_network m iv) n h)) ∙ g

pub passed : (iv : Iv) (n : ℕ) (o : Bool) → n < 33 → is_network n iv ≡ false → list_any (λ m. is_network m iv) (range_with_len n (33 - n)) ≡ o
    → list_any (λ m. is_network m iv) (range_with_len (n + 1) (33 - (n + 1))) ≡ o
passed iv n o h t g = sym (rw t at (any-range (λ m. is_network m iv) n h)) ∙ g

-- where none fits
pub none_found : (iv : Iv) (n : ℕ) (o : Bool) → 33 ≤ n → list_any (λ m. is_network m iv) (range_with_len n (33 - n)) ≡ o → false ≡ o
none_found iv n o h g = (let end : 33 - n ≡ 0 = omega arith in ap (λ k. list_any (λ m. is_network m iv) (range_with_len n k)) (sym end) ∙ g)

-- Words

blanks_append : (xs ys : List (List ℕ)) → behind_blanks (xs ++ ys) ≡ behind_blanks xs ++ behind_blanks ys
blanks_append [] ys = refl
blanks_append (x ∷ xs) ys = ap (λ text. 32 ∷ x ++ text) (blanks_append xs ys) ∙ sym (append_assoc (32 ∷ x) (behind_blanks xs) (behind_blanks ys))

-- further words behind those that were put
pub words_put : (out old new : List ℕ) (words more : List (List ℕ)) → old ≡ out ++ behind_blanks words → new ≡ old ++ behind_blanks more → new ≡ out ++ behind_blanks (words ++ more)
words_put out old new words more e k =
    k ∙ ap (λ text. text ++ behind_blanks more) e ∙ append_assoc out (behind_blanks words) (behind_blanks more) ∙ ap (λ text. out ++ text) (sym (blanks_append words more))

pub word_put : (out old new : List ℕ) (words : List (List ℕ)) (word : List ℕ) → old ≡ out ++ behind_blanks words → new ≡ old ++ 32 ∷ word → new ≡ out ++ behind_blanks (words ++ word ∷ [])
word_put out old new words word e k = words_put out old new words (word ∷ []) e (k ∙ ap (λ text. old ++ 32 ∷ text) (sym (append-nil word)))

-- Interfaces

pub face_put : (c : IosConfig) (face : ℕ) (gs : List IosGroup) (out a b new : List ℕ) (inside outside : List Iv) → inside ≡ c.inside → a ≡ out ++ ended (side_lines (codes "inside") inside face) → outside ≡ c.outside
    → b ≡ a ++ ended (side_lines (codes "outside") outside face) → new ≡ b ++ ended (group_lines face gs) → new ≡ out ++ ended (face_lines c face gs)
face_put c face gs out a b new inside outside r1 e1 r2 e2 e3 =
    let s1 = side_lines (codes "inside") c.inside face in
    let s2 = side_lines (codes "outside") c.outside face in
    let s3 = group_lines face gs in
    let first = e1 ∙ ap (λ (set : List Iv). out ++ ended (side_lines (codes "inside") set face)) r1 in
    let second = lines_put out a b s1 s2 first (e2 ∙ ap (λ (set : List Iv). a ++ ended (side_lines (codes "outside") set face)) r2) in
    lines_put out b new (s1 ++ s2) s3 second e3 ∙ ap (λ (lines : List (List ℕ)). out ++ ended lines) (append_assoc s1 s2 s3)

-- the next interface
pub next_face_put : (c : IosConfig) (faces : List Iface) (i : ℕ) (f : Iface) (number : ℕ) (name out new all : List ℕ) (left rest : List IosGroup) → i < length faces → f ≡ get_or faces i f → name ≡ f.names.ios
    → new ≡ out ++ ended (interface_lines c number name left) → rest ≡ groups_behind number left
    → out ++ ended (interfaces_lines c number (map (λ face. face.names.ios) (drop i faces)) left) ≡ all
    → new ++ ended (interfaces_lines c (number + 1) (map (λ face. face.names.ios) (drop (i + 1) faces)) rest) ≡ all
next_face_put c faces i f number name out new all left rest h is r1 e r2 k =
    let names : List Iface → List (List ℕ) = λ fs. map (λ face. face.names.ios) fs in
    let behind = drop (i + 1) faces in
    let split : drop i faces ≡ f ∷ behind = drop_more faces i f h ∙ ap (λ (first : Iface). first ∷ behind) (sym is) in
    let own = interface_lines c number f.names.ios left in
    let more = interfaces_lines c (number + 1) (names behind) (groups_behind number left) in
    ap (λ (gs : List IosGroup). new ++ ended (interfaces_lines c (number + 1) (names behind) gs)) r2
    ∙ ap (λ text. text ++ ended more) (e ∙ ap (λ (x : List ℕ). out ++ ended (interface_lines c number x left)) r1)
    ∙ append_assoc out (ended own) (ended more)
    ∙ ap (λ text. out ++ text) (sym (ended-append own more))
    ∙ ap (λ (fs : List Iface). out ++ ended (interfaces_lines c number (names fs) left)) (sym split)
    ∙ k

pub all_faces_put : (c : IosConfig) (site : Site) (out a new name : List ℕ) (faces : List Iface) (gs rest : List IosGroup) → gs ≡ c.groups → name ≡ site.lo.ios → a ≡ out ++ ended (interface_lines c 1 name gs)
    → faces ≡ site.faces → rest ≡ groups_behind 1 gs → new ≡ a ++ ended (interfaces_lines c 2 (map (λ face. face.names.ios) faces) rest) → new ≡ out ++ ended (interfaces_lines c 1 (face_names site) c.groups)
all_faces_put c site out a new name faces gs rest r1 r2 e1 r3 r4 e2 =
    let names : List Iface → List (List ℕ) = λ fs. map (λ face. face.names.ios) fs in
    let own = interface_lines c 1 site.lo.ios c.groups in
    let more = interfaces_lines c 2 (names site.faces) (groups_behind 1 c.groups) in
    let first : a ≡ out ++ ended own = e1 ∙ ap (λ (x : List ℕ). out ++ ended (interface_lines c 1 x gs)) r2 ∙ ap (λ (l : List IosGroup). out ++ ended (interface_lines c 1 site.lo.ios l)) r1 in
    lines_put out a new own more first
    (e2 ∙ ap (λ (fs : List Iface). a ++ ended (interfaces_lines c 2 (names fs) rest)) r3 ∙ ap (λ (l : List IosGroup). a ++ ended (interfaces_lines c 2 (names site.faces) l)) (r4 ∙ ap (groups_behind 1) r1))

-- Translations

pub next_nat_put : (nats : List IosNat) (i : ℕ) (x : IosNat) (n : ℕ) (out new all : List ℕ) → i < length nats → x ≡ get_or nats i x → new ≡ out ++ ended (nat_lines n x)
    → out ++ ended (nats_lines n (drop i nats)) ≡ all → new ++ ended (nats_lines (n + 1) (drop (i + 1) nats)) ≡ all
next_nat_put nats i x n out new all h is e k =
    let rest = drop (i + 1) nats in
    let left : drop i nats ≡ x ∷ rest = drop_more nats i x h ∙ ap (λ (first : IosNat). first ∷ rest) (sym is) in
    ap (λ text. text ++ ended (nats_lines (n + 1) rest)) e
    ∙ append_assoc out (ended (nat_lines n x)) (ended (nats_lines (n + 1) rest))
    ∙ ap (λ text. out ++ text) (sym (ended-append (nat_lines n x) (nats_lines (n + 1) rest)))
    ∙ ap (λ (l : List IosNat). out ++ ended (nats_lines n l)) (sym left)
    ∙ k

-- The whole text

pub text_put : (site : Site) (c : IosConfig) (head a b new : List ℕ) (lists : List IosList) (nats : List IosNat) → head ≡ ended head_lines → a ≡ head ++ ended (interfaces_lines c 1 (face_names site) c.groups) → lists ≡ c.lists
    → b ≡ a ++ ended (section lists_comment lists (list_lines lists)) → nats ≡ c.nats → new ≡ b ++ ended (section nats_comment nats (nats_lines 1 nats)) → new ≡ config_text site c
text_put site c head a b new lists nats e0 e1 r2 e2 r3 e3 =
    let s1 = interfaces_lines c 1 (face_names site) c.groups in
    let s2 = section lists_comment c.lists (list_lines c.lists) in
    let s3 = section nats_comment c.nats (nats_lines 1 c.nats) in
    let first = lines_put [] head a head_lines s1 e0 e1 in
    let second = lines_put [] a b (head_lines ++ s1) s2 first (e2 ∙ ap (λ (l : List IosList). a ++ ended (section lists_comment l (list_lines l))) r2) in
    lines_put [] b new ((head_lines ++ s1) ++ s2) s3 second (e3 ∙ ap (λ (l : List IosNat). b ++ ended (section nats_comment l (nats_lines 1 l))) r3)
    ∙ ap ended (append_assoc (head_lines ++ s1) s2 s3 ∙ append_assoc head_lines s1 (s2 ++ s3))
