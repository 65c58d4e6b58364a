use Rattle.kx_pipeline.proofs.promises.schedules_keep_promises.Goals as goal

pub returns : goal.returns
returns c = λ partitions events scheduled. record {
  markers_agree = c.markers_agree.ensures partitions events scheduled;
  gets_visible = c.readers_get_exactly_what_is_visible.ensures.pages partitions events scheduled;
  fetches_visible =
      c.readers_get_exactly_what_is_visible.ensures.fetches partitions events scheduled;
  stands_once = c.batches_stand_once.ensures partitions events scheduled;
  one_holder = c.ids_have_one_holder.ensures partitions events scheduled;
  nothing_commits = c.nothing_fenced_commits.ensures partitions events scheduled;
  offsets_follow = c.offsets_commit_with_their_transaction.ensures partitions events scheduled;
  open_is_owed = c.open_transactions_are_owed_markers.ensures partitions events scheduled;
}
