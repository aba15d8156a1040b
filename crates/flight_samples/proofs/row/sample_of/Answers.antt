use Rattle.std.proofs.Common.{lit<}
use Rattle.flight_samples.specs.SampleText.{ranges}
use Rattle.flight_samples.proofs.ColumnLemmas.{kept_in_range, kept_values}
use Rattle.flight_samples.proofs.row.sample_of.Goals as goal

pub invariant_of-result : goal.invariant_of-result
unfolding ranges
invariant_of-result c =
    let at = kept_in_range c.args.values c.requires.ranges in
    record {
      lat_range = at 0 (lit< tt);
      lon_range = at 1 (lit< tt);
      alt_range = at 2 (lit< tt);
      sec_range = at 3 (lit< tt);
      tcas_range = at 4 (lit< tt);
      acc_range = at 5 (lit< tt);
      red_range = at 6 (lit< tt);
      wlat_range = at 7 (lit< tt);
      wlon_range = at 8 (lit< tt);
      walt_range = at 9 (lit< tt);
      eta_range = at 10 (lit< tt);
      nlat_range = at 11 (lit< tt);
      nlon_range = at 12 (lit< tt);
      nalt_range = at 13 (lit< tt);
      tinv_range = at 14 (lit< tt);
      track_range = at 15 (lit< tt);
      gs_range = at 16 (lit< tt);
      vr_range = at 17 (lit< tt);
      hinv_range = at 18 (lit< tt);
      heading_range = at 19 (lit< tt);
      mach_range = at 20 (lit< tt);
      wind_range = at 21 (lit< tt);
      winv_range = at 22 (lit< tt);
      wdir_range = at 23 (lit< tt);
      temp_range = at 24 (lit< tt);
      xtk_range = at 25 (lit< tt);
    }

pub returns : goal.returns
returns c = kept_values c.args.values c.requires.count c.requires.ranges
