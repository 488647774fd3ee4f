use Rattle.bson_laws.specs.Means.{norm}
use Rattle.bson_laws.proofs.AtShapes.{views_means, views_reads_tree}
use Rattle.bson_laws.proofs.law_reads_tree.Goals as goal

pub returns : goal.returns
returns c = record {
  reads = views_reads_tree;
  back = λ readable s d t shape plain suits fits means clean deep. views_reads_tree readable s t (norm d) shape plain suits clean deep (views_means s d t shape plain fits means clean);
}
