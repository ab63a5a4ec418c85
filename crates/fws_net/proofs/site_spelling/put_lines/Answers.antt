use Rattle.std.proofs.Common.{◌++◌, List, [], ◌∷◌, map, codes, ap, ap₂, ◌∙◌}
use Rattle.fws_net.specs.declared.site.Iface.{Iface}
use Rattle.fws_net.specs.declared.site.RouteLine.{RouteLine}
use Rattle.fws_net.specs.SiteSpelling.{face_line, address_lines, route_line, last_lines, lines_text}
use Rattle.fws_net.proofs.LinesText.{lines_put}
use Rattle.fws_net.proofs.site_spelling.put_lines.Goals as goal

pub returns : goal.returns
returns c =
    let site = c.args.site.now in
    let out = c.args.out.now in
    let header = (codes "site" ∷ codes "2" ∷ []) ∷ [] in
    let faces = map face_line site.faces in
    let addresses = address_lines site.faces in
    let routes = map (route_line site.faces) site.routes in
    let put_faces = c.in_ok-put_faces.ensures ∙ ap (λ list. c.put.new.self ++ lines_text (map face_line list)) c.as_slice.ensures in
    let put_addresses = c.in_ok-put_addresses.ensures ∙ ap (λ list. c.put_faces.new.out ++ lines_text (address_lines list)) c.as_slice-2.ensures in
    let put_routes = c.in_ok-put_routes.ensures
    ∙ ap₂ (λ (list : List Iface) (lines : List RouteLine). c.put_addresses.new.out ++ lines_text (map (route_line list) lines)) c.as_slice-3.ensures c.as_slice-4.ensures in
    lines_put out c.put_routes.new.out _ (header ++ faces ++ addresses ++ routes) (last_lines site)
    (lines_put out c.put_addresses.new.out _ (header ++ faces ++ addresses) routes
    (lines_put out c.put_faces.new.out _ (header ++ faces) addresses (lines_put out c.put.new.self _ header faces c.in_ok-put.ensures.ok put_faces) put_addresses)
    put_routes)
    c.in_ok-put_last_lines.ensures
