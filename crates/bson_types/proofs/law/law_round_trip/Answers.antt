use Rattle.std.proofs.Common.{rules}
use Rattle.bson_traits.specs.Laws.{GivesBack}
use Rattle.bson_types.proofs.Again.{given_back, reads_back}
use Rattle.bson_types.proofs.law.law_round_trip.Goals as goal

pub returns : goal.returns
returns g c = record {
  again = λ x v t is shape plain written means sound.
      let law = (g.met.T.RoundTrip c.lifetimes (search rules)).returns x is in
      let back : GivesBack g.T.Deserialize.form (g.T.Deserialize.contents x) g.T.Deserialize.taken v = given_back g.T.Deserialize.form (g.T.Deserialize.contents x) g.T.Deserialize.taken (g.T.Serialize.written x) v written law in
      reads_back g.T.Deserialize.form g.T.Deserialize.taken (g.T.Deserialize.contents x) v t shape (c.law_read_back.ensures.reads g.T.Deserialize.form v t shape plain back.fits means sound) back.again;
}
