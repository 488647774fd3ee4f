use Rattle.std.proofs.Common.{Ok, ap, sym, ◌∙◌}
use Rattle.bson_datum.specs.View.{view}
use Rattle.bson_types.proofs.Enveloped.{document_framed}
use Rattle.bson_types.proofs.writing.document_of.Goals as goal

pub framed-requires : goal.framed-requires
framed-requires c = document_framed (view c.args.datum.now) c.in-Ok.bytes.items c.known_framed.ensures c.in-Ok.ensures.bytes c.in-Ok.ensures.fits

pub returns-in-Ok : goal.returns-in-Ok
returns-in-Ok c = record {
  bytes = c.in-Ok.ensures.bytes ∙ ap Ok (sym c.framed.ensures);
  fits = c.in-Ok.ensures.fits;
  refused = tt;
  too_long = tt;
  sound = λ t means sound. c.framed.ensures ∙ c.in-Ok.ensures.sound t means sound;
}

pub returns-in-Err : goal.returns-in-Err
returns-in-Err c = record {
  bytes = tt;
  fits = tt;
  refused = c.in-Err.ensures.refused;
  too_long = c.in-Err.ensures.too_long;
  sound = λ t means sound. c.in-Err.ensures.sound t means sound;
}
