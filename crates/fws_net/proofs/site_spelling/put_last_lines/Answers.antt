use Rattle.std.proofs.Common.{◌≡◌, ◌++◌, [], ◌∷◌, codes, ap, ◌∙◌, if◌then◌else◌}
use Rattle.fws_net.specs.SiteSpelling.{name_at, name_words, lines_text}
use Rattle.fws_net.proofs.LinesText.{lines_put}
use Rattle.fws_net.proofs.site_spelling.put_last_lines.Goals as goal

pub returns : goal.returns
returns c =
    let site = c.args.site.now in
    let out = c.args.out.now in
    let loopback = codes "loopback" ∷ name_words site.lo in
    let default = codes "default" ∷ name_at site.faces site.fallback ∷ [] in
    let forwarding = codes "forwarding" ∷ (if site.forwarding then codes "yes" else codes "no") ∷ [] in
    let one_pass = codes "one_pass" ∷ (if site.one_pass then codes "1" else codes "0") ∷ [] in
    let second : c.put_default.new.out ≡ c.put_loopback.new.out ++ lines_text (default ∷ []) =
    c.in_ok-put_default.ensures ∙ ap (λ faces. c.put_loopback.new.out ++ lines_text ((codes "default" ∷ name_at faces site.fallback ∷ []) ∷ [])) c.as_slice.ensures in
    lines_put out c.put_choice.new.out _ (loopback ∷ default ∷ forwarding ∷ []) (one_pass ∷ [])
    (lines_put out c.put_default.new.out _ (loopback ∷ default ∷ []) (forwarding ∷ [])
    (lines_put out c.put_loopback.new.out _ (loopback ∷ []) (default ∷ []) c.in_ok-put_loopback.ensures second)
    c.in_ok-put_choice.ensures)
    c.in_ok-put_choice-2.ensures
