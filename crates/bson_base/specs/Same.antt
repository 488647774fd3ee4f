-- Whether two values are equal: of one kind, part by part. Source: bsonspec.org, version 1.1.
use Rattle.std.specs.Prelude.{Bool, true, false, ◌&&◌, nat_eq}
use Rattle.std.specs.Bool.{beq}
use Rattle.std.specs.Ordering.{int_eq}
use Rattle.std.specs.Str.{bytes_eq}
use Rattle.bson_kinds.specs.Kind.{byte}
use Rattle.bson_base.specs.Tree.{Tree, double, string, document, array, binary, undefined, object_id, boolean, date_time, null, regular_expression, db_pointer, javascript_code, symbol, javascript_code_with_scope, int32, timestamp, int64, decimal128, max_key, min_key, raw, Pairs, no_pairs, pair, Trees, no_trees, tree}

abbrev mutual
  -- two values are of one kind, and their parts are equal
  pub same : Tree → Tree → Bool
  same (double bytes) (double others) = bytes_eq bytes others
  same (string t) (string u) = bytes_eq t u
  same (document ps) (document qs) = same_pairs ps qs
  same (array ts) (array us) = same_trees ts us
  same (binary subtype bytes) (binary other others) = nat_eq subtype other && bytes_eq bytes others
  same undefined undefined = true
  same (object_id id) (object_id other) = bytes_eq id other
  same (boolean b) (boolean c) = beq b c
  same (date_time n) (date_time m) = int_eq n m
  same null null = true
  same (regular_expression pattern options) (regular_expression p o) = bytes_eq pattern p && bytes_eq options o
  same (db_pointer namespace id) (db_pointer n other) = bytes_eq namespace n && bytes_eq id other
  same (javascript_code t) (javascript_code u) = bytes_eq t u
  same (symbol t) (symbol u) = bytes_eq t u
  same (javascript_code_with_scope code scope) (javascript_code_with_scope c s) = bytes_eq code c && same_pairs scope s
  same (int32 n) (int32 m) = int_eq n m
  same (timestamp time increment) (timestamp u j) = nat_eq time u && nat_eq increment j
  same (int64 n) (int64 m) = int_eq n m
  same (decimal128 bytes) (decimal128 others) = bytes_eq bytes others
  same max_key max_key = true
  same min_key min_key = true
  same (raw k bytes) (raw l others) = nat_eq (byte k) (byte l) && bytes_eq bytes others
  same t u = false

  -- there are as many values, and each is that of the other
  pub same_trees : Trees → Trees → Bool
  same_trees no_trees no_trees = true
  same_trees (tree t ts) (tree u us) = same t u && same_trees ts us
  same_trees ts us = false

  -- there are as many pairs, and each has the key and the value of the other
  pub same_pairs : Pairs → Pairs → Bool
  same_pairs no_pairs no_pairs = true
  same_pairs (pair key t ps) (pair k u qs) = (bytes_eq key k && same t u) && same_pairs ps qs
  same_pairs ps qs = false
