-- The site's text is read line by line.
use Rattle.std.proofs.Common.{refl}
use Rattle.fws_load.specs.Load.{site_text}
use Rattle.fws_num.specs.Numbers.{octet_of, octet_before_dot, quad_of}
use Rattle.fws_net.specs.SiteLines.{default_behind, face_with_address, interface_step, loopback_behind}
use Rattle.fws_net.specs.SiteWords.{names_and_side, names_of}
use Rattle.fws_load_laws.specs.LoadedSite.{LoadSiteIsRead}

pub site_read : LoadSiteIsRead
unfolding site_text octet_of octet_before_dot quad_of default_behind face_with_address interface_step loopback_behind names_and_side names_of
site_read = refl
