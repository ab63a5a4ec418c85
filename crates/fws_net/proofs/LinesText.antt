-- The text of lines, piece by piece.
use Rattle.std.proofs.Common.{◌≡◌, ℕ, ◌+◌, ◌<◌, List, [], ◌∷◌, ◌++◌, map, length, drop, get_or, refl, ap, ap₂, sym, ◌∙◌, append_assoc}
use Rattle.std.proofs.lemmas.List.{drop_more}
use Rattle.fws_num.specs.Written.{spaced}
use Rattle.fws_net.specs.declared.site.Address.{Address}
use Rattle.fws_net.specs.declared.site.Iface.{Iface}
use Rattle.fws_net.specs.SiteSpelling.{address_line, address_lines, lines_text}

lines_text-append : (front behind : List (List (List ℕ))) → lines_text (front ++ behind) ≡ lines_text front ++ lines_text behind
lines_text-append [] behind = refl
lines_text-append (line ∷ front) behind =
    ap (λ text. spaced line ++ 10 ∷ text) (lines_text-append front behind) ∙ sym (append_assoc (spaced line) (10 ∷ lines_text front) (lines_text behind))

-- the lines of an interface's addresses were put, and those of the others are left
pub addresses_more : (faces : List Iface) (i : ℕ) (face : Iface) (name : List ℕ) (owns : List Address) (out new all : List ℕ) → i < length faces → face ≡ get_or faces i face
    → name ≡ face.name → owns ≡ face.addrs → new ≡ out ++ lines_text (map (address_line name) owns) → out ++ lines_text (address_lines (drop i faces)) ≡ all
    → new ++ lines_text (address_lines (drop (i + 1) faces)) ≡ all
addresses_more faces i face name owns out new all h is called owned e k =
    let rest = drop (i + 1) faces in
    let put : new ≡ out ++ lines_text (map (address_line face.name) face.addrs) =
    e ∙ ap₂ (λ (text : List ℕ) (list : List Address). out ++ lines_text (map (address_line text) list)) called owned in
    let left : drop i faces ≡ face ∷ rest = drop_more faces i face h ∙ ap (λ (first : Iface). first ∷ rest) (sym is) in
    ap (λ text. text ++ lines_text (address_lines rest)) put
    ∙ append_assoc out (lines_text (map (address_line face.name) face.addrs)) (lines_text (address_lines rest))
    ∙ ap (λ text. out ++ text) (sym (lines_text-append (map (address_line face.name) face.addrs) (address_lines rest)))
    ∙ ap (λ list. out ++ lines_text (address_lines list)) (sym left)
    ∙ k

-- further lines behind those that were put
pub lines_put : (out old new : List ℕ) (lines more : List (List (List ℕ))) → old ≡ out ++ lines_text lines → new ≡ old ++ lines_text more → new ≡ out ++ lines_text (lines ++ more)
lines_put out old new lines more e k =
    k ∙ ap (λ text. text ++ lines_text more) e ∙ append_assoc out (lines_text lines) (lines_text more)
    ∙ ap (λ text. out ++ text) (sym (lines_text-append lines more))
